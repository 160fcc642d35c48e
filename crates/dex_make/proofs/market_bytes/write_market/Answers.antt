use Rattle.std.proofs.Common.{rules, List, [], ℕ, sym, subst, ap, ◌∙◌, arith}
use Rattle.dex_fields.specs.Empty.{empty_account}
use Rattle.dex_fields.specs.Writes.{wrote}
use Rattle.dex_market.specs.StandsFor.{StandsForMarket}
use Rattle.dex_sound.specs.Made.{made_market}
use Rattle.dex_make.specs.declared.market_bytes.InitialTerms.{InitialTerms}
use Rattle.dex_make.specs.MarketBytes.{address_writes, market_bytes, term_writes}
use Rattle.dex_make.specs.MarketSet.{initial_terms, listing_of}
use Rattle.dex_make.proofs.MarketLaws.{FitWords, StandsForMarket-made}
use Rattle.dex_make.proofs.market_bytes.write_market.Goals as goal

pub returns-clause-bytes : goal.returns-clause-bytes
unfolding market_bytes
returns-clause-bytes c =
    c.write_terms.ensures
    ∙ ap (λ (terms : InitialTerms). wrote c.write_addresses.new.bytes (term_writes terms)) c.initial_terms.ensures
    ∙ ap (λ (b : List ℕ). wrote b (term_writes (initial_terms c.args.set.now.ix))) c.write_addresses.ensures.bytes
    ∙ ap (λ (b : List ℕ). wrote (wrote b (address_writes c.args.set.now)) (term_writes (initial_terms c.args.set.now.ix))) c.write_empty_account.ensures.bytes
    ∙ ap (λ (n : ℕ). wrote (wrote (empty_account n 3) (address_writes c.args.set.now)) (term_writes (initial_terms c.args.set.now.ix))) c.requires.size

pub returns-clause-stands : goal.returns-clause-stands
returns-clause-stands c trade =
    let fits : FitWords c.initial_terms.result = record {
      nonce = search rules;
      dust = search rules;
      coin_lot = search rules;
      pc_lot = search rules;
      fee_rate_bps = omega arith;
    } in
    subst (λ (b : List ℕ). StandsForMarket b (made_market (listing_of c.args.set.now) [])) (sym (returns-clause-bytes c))
    (StandsForMarket-made c.args.set.now c.write_addresses.ensures.addresses (subst FitWords c.initial_terms.ensures fits) c.requires.set.last_byte trade)

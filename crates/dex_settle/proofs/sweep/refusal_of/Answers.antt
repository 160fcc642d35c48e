use Rattle.std.proofs.Common.{rules, ◌∙◌, ◌≡◌, ◌∷◌, [], arith, ap}
use Rattle.dex_types.specs.Reasons.{missing, not_this_authority, other_mint, too_full}
use Rattle.dex_types.specs.Transfers.{payout}
use Rattle.dex_market.specs.MarketAccount.{market_words}
use Rattle.dex_reasons.proofs.FirstReasons.{joined, joined-first}
use Rattle.dex_reasons.proofs.WalletAmounts.{brought-le}
use Rattle.dex_settle.proofs.sweep.refusal_of.Goals as goal

pub too_full-requires : goal.too_full-requires
too_full-requires c address =
    omega (arith, brought-le c.args.seen.now (payout 0 c.pc_fees_accrued.result 0) address)

pub returns : goal.returns
returns c =
    let seen = c.args.seen.now in
    let words = market_words c.args.market.now.bytes.now in
    let later = not_this_authority c.args.authority c.args.signer ∷ other_mint words.terms.pc_mint seen.pc ∷ too_full seen (payout 0 words.pc_fees_accrued 0) seen.pc ∷ [] in
    let full : c.too_full.result ≡ too_full seen (payout 0 words.pc_fees_accrued 0) seen.pc =
    c.too_full.ensures ∙ ap (λ fees. too_full seen (payout 0 fees 0) seen.pc) c.pc_fees_accrued.ensures in
    let made : c.or-3.result ≡ joined (missing seen.pc) later = search rules in
    made ∙ joined-first (missing seen.pc) later

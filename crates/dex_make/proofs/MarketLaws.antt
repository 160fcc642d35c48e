-- What a market account says as it is made.
use Rattle.std.proofs.Common.{◌≡◌, ℕ, ◌<◌, ◌≤◌, ◌^◌, true, List, [], length, get_or, refl, sym, subst, ap, ◌∙◌, arith, inl, lit≤, lit<}
use Rattle.std.proofs.lemmas.List.{length-set}
use Rattle.dex_fields.specs.declared.field.Field.{Field}
use Rattle.dex_fields.specs.declared.frame.TheConstants.{FRONT}
use Rattle.dex_fields.specs.declared.market.TheConstants.{ACCOUNT_FLAGS, OWN_ADDRESS, VAULT_SIGNER_NONCE, COIN_MINT, PC_MINT, COIN_VAULT, COIN_DEPOSITS_TOTAL, COIN_FEES_ACCRUED, PC_VAULT, PC_DEPOSITS_TOTAL, PC_FEES_ACCRUED, PC_DUST_THRESHOLD, REQ_Q, EVENT_Q, BIDS, ASKS, COIN_LOT_SIZE, PC_LOT_SIZE, FEE_RATE_BPS, REFERRER_REBATES_ACCRUED}
use Rattle.dex_fields.specs.Bytes.{bytes_in, end_of, number_in}
use Rattle.dex_fields.specs.Empty.{empty_account, last_field}
use Rattle.dex_fields.specs.Frame.{IsFramed}
use Rattle.dex_fields.specs.Writes.{Write, wrote}
use Rattle.dex_fields.proofs.EmptyLaw.{IsFramed-empty_account, flags-empty_account, length-empty_account, number_in-empty_account}
use Rattle.dex_fields.proofs.Wrote.{all_apart, bytes_at, bytes_in-wrote, length-wrote, number_at, number_in-wrote}
use Rattle.dex_market.specs.MarketAccount.{AreTerms, MarketWords, market_words}
use Rattle.dex_market.specs.StandsFor.{StandsForMarket, words_of}
use Rattle.dex_sound.specs.Made.{made_market}
use Rattle.dex_make.specs.declared.market.MarketSet.{MarketSet}
use Rattle.dex_make.specs.declared.market_bytes.InitialTerms.{InitialTerms}
use Rattle.dex_make.specs.declared.parts.MarketPart.{MarketPart}
use Rattle.dex_make.specs.declared.parts.MarketPart.TheVariants.{CoinVault, PcVault, RequestQueue, EventQueue, Bids, Asks}
use Rattle.dex_make.specs.Derived.{derived, number_of}
use Rattle.dex_make.specs.MarketBytes.{HasAddresses, address_writes, market_bytes, term_writes}
use Rattle.dex_make.specs.MarketSet.{CanTrade, initial_terms, listing_of}
use Rattle.dex_make.proofs.PartLaws.{AreTerms-made}

-- each number fits its word
pub record FitWords (terms : InitialTerms) : Type 0 where
  pub nonce : terms.nonce < 2 ^ 64
  pub dust : terms.dust < 2 ^ 64
  pub coin_lot : terms.coin_lot < 2 ^ 64
  pub pc_lot : terms.pc_lot < 2 ^ 64
  pub fee_rate_bps : terms.fee_rate_bps < 2 ^ 64

module _ (made : MarketSet) (wide : HasAddresses made) (fits : FitWords (initial_terms made.ix)) where
  abbrev empty : List ℕ
  empty = empty_account 388 3

  abbrev places : List Write
  places = address_writes made

  abbrev addressed : List ℕ
  addressed = wrote empty places

  abbrev terms : InitialTerms
  terms = initial_terms made.ix

  abbrev numbers : List Write
  numbers = term_writes terms

  abbrev now : List ℕ
  now = wrote addressed numbers

  length-empty : length empty ≡ 388
  length-empty = length-empty_account 388 3 (lit≤ tt)

  length-addressed : length addressed ≡ 388
  length-addressed = length-wrote empty places ∙ length-empty

  length-now : length now ≡ 388
  length-now = length-wrote addressed numbers ∙ length-addressed

  length-derived : (part : MarketPart) → length (derived made.address part).0 ≡ 32
  length-derived part = length-set made.address.0 31 (number_of part) ∙ wide.address

  -- a word that is not written is zero
  zero_now : (field : Field) → all_apart field numbers ≡ true → all_apart field places ≡ true → 13 ≤ field.at → end_of field ≤ 381 → number_in now field ≡ 0
  zero_now field a b behind before =
      number_in-wrote addressed numbers field a ∙ number_in-wrote empty places field b
      ∙ number_in-empty_account 388 3 (lit≤ tt) field behind (omega arith)

  flags_now : number_in now ACCOUNT_FLAGS ≡ 3
  flags_now =
      number_in-wrote addressed numbers ACCOUNT_FLAGS refl ∙ number_in-wrote empty places ACCOUNT_FLAGS refl
      ∙ flags-empty_account 388 3 (lit≤ tt) (lit< tt)

  within : (field : Field) → end_of field ≤ 388 → end_of field ≤ length empty
  within field h = omega (arith, length-empty)

  within_addressed : (field : Field) → end_of field ≤ 388 → end_of field ≤ length addressed
  within_addressed field h = omega (arith, length-addressed)

  words_now : market_words now ≡ words_of (made_market (listing_of made) [])
  words_now =
      rw (
        bytes_in-wrote addressed numbers OWN_ADDRESS refl ∙ bytes_at empty places 0 refl (within OWN_ADDRESS (lit≤ tt)) wide.address,
        bytes_in-wrote addressed numbers COIN_MINT refl ∙ bytes_at empty places 1 refl (within COIN_MINT (lit≤ tt)) wide.coin,
        bytes_in-wrote addressed numbers PC_MINT refl ∙ bytes_at empty places 2 refl (within PC_MINT (lit≤ tt)) wide.pc,
        bytes_in-wrote addressed numbers COIN_VAULT refl ∙ bytes_at empty places 3 refl (within COIN_VAULT (lit≤ tt)) (length-derived CoinVault),
        bytes_in-wrote addressed numbers PC_VAULT refl ∙ bytes_at empty places 4 refl (within PC_VAULT (lit≤ tt)) (length-derived PcVault),
        bytes_in-wrote addressed numbers REQ_Q refl ∙ bytes_at empty places 5 refl (within REQ_Q (lit≤ tt)) (length-derived RequestQueue),
        bytes_in-wrote addressed numbers EVENT_Q refl ∙ bytes_at empty places 6 refl (within EVENT_Q (lit≤ tt)) (length-derived EventQueue),
        bytes_in-wrote addressed numbers BIDS refl ∙ bytes_at empty places 7 refl (within BIDS (lit≤ tt)) (length-derived Bids),
        bytes_in-wrote addressed numbers ASKS refl ∙ bytes_at empty places 8 refl (within ASKS (lit≤ tt)) (length-derived Asks),
        number_at addressed numbers 0 VAULT_SIGNER_NONCE terms.nonce refl refl (within_addressed VAULT_SIGNER_NONCE (lit≤ tt)) fits.nonce,
        number_at addressed numbers 1 PC_DUST_THRESHOLD terms.dust refl refl (within_addressed PC_DUST_THRESHOLD (lit≤ tt)) fits.dust,
        number_at addressed numbers 2 COIN_LOT_SIZE terms.coin_lot refl refl (within_addressed COIN_LOT_SIZE (lit≤ tt)) fits.coin_lot,
        number_at addressed numbers 3 PC_LOT_SIZE terms.pc_lot refl refl (within_addressed PC_LOT_SIZE (lit≤ tt)) fits.pc_lot,
        number_at addressed numbers 4 FEE_RATE_BPS terms.fee_rate_bps refl refl (within_addressed FEE_RATE_BPS (lit≤ tt)) fits.fee_rate_bps,
        flags_now,
        zero_now COIN_DEPOSITS_TOTAL refl refl (lit≤ tt) (lit≤ tt),
        zero_now COIN_FEES_ACCRUED refl refl (lit≤ tt) (lit≤ tt),
        zero_now PC_DEPOSITS_TOTAL refl refl (lit≤ tt) (lit≤ tt),
        zero_now PC_FEES_ACCRUED refl refl (lit≤ tt) (lit≤ tt),
        zero_now REFERRER_REBATES_ACCRUED refl refl (lit≤ tt) (lit≤ tt),
      ) refl

  framed_now : IsFramed now
  framed_now =
      let framed : IsFramed empty = IsFramed-empty_account 388 3 (lit≤ tt) in
      record {
        front = bytes_in-wrote addressed numbers FRONT refl ∙ bytes_in-wrote empty places FRONT refl ∙ framed.front;
        end =
            ap (λ (n : ℕ). bytes_in now (last_field n)) length-now
            ∙ bytes_in-wrote addressed numbers (last_field 388) refl ∙ bytes_in-wrote empty places (last_field 388) refl
            ∙ sym (ap (λ (n : ℕ). bytes_in empty (last_field n)) length-empty) ∙ framed.end;
      }

  -- it is the account of the market as it is made
  pub StandsForMarket-made : get_or made.address.0 31 0 ≡ 0 → CanTrade made → StandsForMarket (market_bytes made) (made_market (listing_of made) [])
  unfolding market_bytes
  StandsForMarket-made last trade = record {
    accepted = record {
      size = length-now;
      framed = framed_now;
      flags = inl flags_now;
      terms = subst AreTerms (sym (ap (λ (w : MarketWords). w.terms) words_now)) (AreTerms-made made wide.address last trade);
    };
    words = words_now;
  }

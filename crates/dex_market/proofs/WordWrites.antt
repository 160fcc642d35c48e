-- What a write of one word leaves of a market account and of a request queue.
use Rattle.std.proofs.Common.{◌≡◌, ℕ, ◌<◌, ◌≤◌, List, [], ◌∷◌, true, get_or, refl, sym, subst, ◌∙◌, arith, lit<}
use Rattle.std.proofs.lemmas.Bool.{and_parts}
use Rattle.std.proofs.lemmas.List.Sums.{AllPass-from_list_all}
use Rattle.std.specs.List.{list_all}
use Rattle.dex_fields.specs.declared.field.Field.{Field}
use Rattle.dex_fields.specs.declared.market.TheConstants.{ACCOUNT_FLAGS, OWN_ADDRESS, VAULT_SIGNER_NONCE, COIN_MINT, PC_MINT, COIN_VAULT, COIN_DEPOSITS_TOTAL, COIN_FEES_ACCRUED, PC_VAULT, PC_DEPOSITS_TOTAL, PC_FEES_ACCRUED, PC_DUST_THRESHOLD, REQ_Q, EVENT_Q, BIDS, ASKS, COIN_LOT_SIZE, PC_LOT_SIZE, FEE_RATE_BPS, REFERRER_REBATES_ACCRUED}
use Rattle.dex_fields.specs.Bytes.{bytes_in, end_of, number_in, with_number}
use Rattle.dex_fields.proofs.FrameLaw.{IsFramed-with_number}
use Rattle.dex_fields.proofs.Places.{are_apart, bytes_in-other, number_in-other}
use Rattle.dex_fields.proofs.Writing.{length-with_number}
use Rattle.dex_market.specs.MarketAccount.{AreMarketFlags, AreTerms, IsMarket, market_terms, market_words}

-- a number that stands where it was put is the one that was written
pub put-given : (bytes left : List ℕ) (field : Field) (x : ℕ) → left ≡ with_number bytes field x → number_in left field ≡ x
    → number_in (with_number bytes field x) field ≡ x
put-given bytes left field x is given = subst (λ (b : List ℕ). number_in b field ≡ x) is given

-- the fields of the terms
abbrev pub term_fields : List Field
term_fields =
    OWN_ADDRESS ∷ VAULT_SIGNER_NONCE ∷ COIN_MINT ∷ PC_MINT ∷ COIN_VAULT ∷ PC_VAULT ∷ PC_DUST_THRESHOLD ∷ REQ_Q ∷ EVENT_Q ∷ BIDS ∷ ASKS ∷ COIN_LOT_SIZE ∷ PC_LOT_SIZE ∷ FEE_RATE_BPS ∷ []

-- the terms stay where a word beside them is written
pub terms_kept : (bytes : List ℕ) (field : Field) (x : ℕ) → list_all (λ other. are_apart other field) term_fields ≡ true
    → market_terms (with_number bytes field x) ≡ market_terms bytes
terms_kept bytes field x beside =
    let apart = AllPass-from_list_all (λ other. are_apart other field) term_fields beside in
    let number : (k : ℕ) → k < 14 → number_in (with_number bytes field x) (get_or term_fields k OWN_ADDRESS) ≡ number_in bytes (get_or term_fields k OWN_ADDRESS) =
    λ k lt. number_in-other bytes field x (get_or term_fields k OWN_ADDRESS) (apart k OWN_ADDRESS lt) in
    let address : (k : ℕ) → k < 14 → bytes_in (with_number bytes field x) (get_or term_fields k OWN_ADDRESS) ≡ bytes_in bytes (get_or term_fields k OWN_ADDRESS) =
    λ k lt. bytes_in-other bytes field x (get_or term_fields k OWN_ADDRESS) (apart k OWN_ADDRESS lt) in
    rw (
      address 0 (lit< tt),
      number 1 (lit< tt),
      address 2 (lit< tt),
      address 3 (lit< tt),
      address 4 (lit< tt),
      address 5 (lit< tt),
      number 6 (lit< tt),
      address 7 (lit< tt),
      address 8 (lit< tt),
      address 9 (lit< tt),
      address 10 (lit< tt),
      number 11 (lit< tt),
      number 12 (lit< tt),
      number 13 (lit< tt),
    ) refl

-- a market account stays one where a word beside its terms and its text is written
pub IsMarket-with_number : (bytes : List ℕ) (field : Field) (x : ℕ) → list_all (λ other. are_apart other field) term_fields ≡ true
    → 5 ≤ field.at → end_of field ≤ 381 → AreMarketFlags (number_in (with_number bytes field x) ACCOUNT_FLAGS)
    → IsMarket bytes → IsMarket (with_number bytes field x)
IsMarket-with_number bytes field x beside behind before flags market = record {
  size = length-with_number bytes field x ∙ market.size;
  framed = IsFramed-with_number bytes field x behind (omega (arith, market.size)) market.framed;
  flags = flags;
  terms = subst AreTerms (sym (terms_kept bytes field x beside)) market.terms;
}

-- a market account stays one where a word is written that is none of the flags
pub IsMarket-beside : (bytes : List ℕ) (field : Field) (x : ℕ) → list_all (λ other. are_apart other field) (ACCOUNT_FLAGS ∷ term_fields) ≡ true
    → 5 ≤ field.at → end_of field ≤ 381 → IsMarket bytes → IsMarket (with_number bytes field x)
IsMarket-beside bytes field x beside behind before market =
    let both = and_parts (are_apart ACCOUNT_FLAGS field) (list_all (λ other. are_apart other field) term_fields) beside in
    IsMarket-with_number bytes field x both.1 behind before (subst AreMarketFlags (sym (number_in-other bytes field x ACCOUNT_FLAGS both.0)) market.flags) market

-- ---- each word that changes

pub account_flags_written : (bytes : List ℕ) (x : ℕ) → number_in (with_number bytes ACCOUNT_FLAGS x) ACCOUNT_FLAGS ≡ x
    → market_words (with_number bytes ACCOUNT_FLAGS x) ≡ record (market_words bytes) { account_flags = x }
account_flags_written bytes x given =
    rw (terms_kept bytes ACCOUNT_FLAGS x refl, number_in-other bytes ACCOUNT_FLAGS x COIN_DEPOSITS_TOTAL refl, number_in-other bytes ACCOUNT_FLAGS x COIN_FEES_ACCRUED refl, number_in-other bytes ACCOUNT_FLAGS x PC_DEPOSITS_TOTAL refl, number_in-other bytes ACCOUNT_FLAGS x PC_FEES_ACCRUED refl, number_in-other bytes ACCOUNT_FLAGS x REFERRER_REBATES_ACCRUED refl, given) refl

pub coin_deposits_total_written : (bytes : List ℕ) (x : ℕ) → number_in (with_number bytes COIN_DEPOSITS_TOTAL x) COIN_DEPOSITS_TOTAL ≡ x
    → market_words (with_number bytes COIN_DEPOSITS_TOTAL x) ≡ record (market_words bytes) { coin_deposits_total = x }
coin_deposits_total_written bytes x given =
    rw (terms_kept bytes COIN_DEPOSITS_TOTAL x refl, number_in-other bytes COIN_DEPOSITS_TOTAL x ACCOUNT_FLAGS refl, number_in-other bytes COIN_DEPOSITS_TOTAL x COIN_FEES_ACCRUED refl, number_in-other bytes COIN_DEPOSITS_TOTAL x PC_DEPOSITS_TOTAL refl, number_in-other bytes COIN_DEPOSITS_TOTAL x PC_FEES_ACCRUED refl, number_in-other bytes COIN_DEPOSITS_TOTAL x REFERRER_REBATES_ACCRUED refl, given) refl

pub coin_fees_accrued_written : (bytes : List ℕ) (x : ℕ) → number_in (with_number bytes COIN_FEES_ACCRUED x) COIN_FEES_ACCRUED ≡ x
    → market_words (with_number bytes COIN_FEES_ACCRUED x) ≡ record (market_words bytes) { coin_fees_accrued = x }
coin_fees_accrued_written bytes x given =
    rw (terms_kept bytes COIN_FEES_ACCRUED x refl, number_in-other bytes COIN_FEES_ACCRUED x ACCOUNT_FLAGS refl, number_in-other bytes COIN_FEES_ACCRUED x COIN_DEPOSITS_TOTAL refl, number_in-other bytes COIN_FEES_ACCRUED x PC_DEPOSITS_TOTAL refl, number_in-other bytes COIN_FEES_ACCRUED x PC_FEES_ACCRUED refl, number_in-other bytes COIN_FEES_ACCRUED x REFERRER_REBATES_ACCRUED refl, given) refl

pub pc_deposits_total_written : (bytes : List ℕ) (x : ℕ) → number_in (with_number bytes PC_DEPOSITS_TOTAL x) PC_DEPOSITS_TOTAL ≡ x
    → market_words (with_number bytes PC_DEPOSITS_TOTAL x) ≡ record (market_words bytes) { pc_deposits_total = x }
pc_deposits_total_written bytes x given =
    rw (terms_kept bytes PC_DEPOSITS_TOTAL x refl, number_in-other bytes PC_DEPOSITS_TOTAL x ACCOUNT_FLAGS refl, number_in-other bytes PC_DEPOSITS_TOTAL x COIN_DEPOSITS_TOTAL refl, number_in-other bytes PC_DEPOSITS_TOTAL x COIN_FEES_ACCRUED refl, number_in-other bytes PC_DEPOSITS_TOTAL x PC_FEES_ACCRUED refl, number_in-other bytes PC_DEPOSITS_TOTAL x REFERRER_REBATES_ACCRUED refl, given) refl

pub pc_fees_accrued_written : (bytes : List ℕ) (x : ℕ) → number_in (with_number bytes PC_FEES_ACCRUED x) PC_FEES_ACCRUED ≡ x
    → market_words (with_number bytes PC_FEES_ACCRUED x) ≡ record (market_words bytes) { pc_fees_accrued = x }
pc_fees_accrued_written bytes x given =
    rw (terms_kept bytes PC_FEES_ACCRUED x refl, number_in-other bytes PC_FEES_ACCRUED x ACCOUNT_FLAGS refl, number_in-other bytes PC_FEES_ACCRUED x COIN_DEPOSITS_TOTAL refl, number_in-other bytes PC_FEES_ACCRUED x COIN_FEES_ACCRUED refl, number_in-other bytes PC_FEES_ACCRUED x PC_DEPOSITS_TOTAL refl, number_in-other bytes PC_FEES_ACCRUED x REFERRER_REBATES_ACCRUED refl, given) refl

pub referrer_rebates_accrued_written : (bytes : List ℕ) (x : ℕ) → number_in (with_number bytes REFERRER_REBATES_ACCRUED x) REFERRER_REBATES_ACCRUED ≡ x
    → market_words (with_number bytes REFERRER_REBATES_ACCRUED x) ≡ record (market_words bytes) { referrer_rebates_accrued = x }
referrer_rebates_accrued_written bytes x given =
    rw (terms_kept bytes REFERRER_REBATES_ACCRUED x refl, number_in-other bytes REFERRER_REBATES_ACCRUED x ACCOUNT_FLAGS refl, number_in-other bytes REFERRER_REBATES_ACCRUED x COIN_DEPOSITS_TOTAL refl, number_in-other bytes REFERRER_REBATES_ACCRUED x COIN_FEES_ACCRUED refl, number_in-other bytes REFERRER_REBATES_ACCRUED x PC_DEPOSITS_TOTAL refl, number_in-other bytes REFERRER_REBATES_ACCRUED x PC_FEES_ACCRUED refl, given) refl

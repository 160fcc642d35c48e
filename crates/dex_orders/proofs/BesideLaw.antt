-- What a write elsewhere leaves, and an account by its parts.
use Rattle.std.proofs.Common.{◌≡◌, ℕ, ◌+◌, ◌≤◌, ◌⊎◌, true, List, length, Option, subst, sym, ap, ◌∙◌, arith, inl, inr}
use Rattle.dex_fields.specs.declared.field.Field.{Field}
use Rattle.dex_fields.specs.declared.open_orders.TheConstants.{OWNER, NATIVE_COIN_FREE, NATIVE_COIN_TOTAL, NATIVE_PC_FREE, NATIVE_PC_TOTAL, FREE_SLOT_BITS, IS_BID_BITS, REFERRER_REBATES_ACCRUED}
use Rattle.dex_fields.specs.Bytes.{bytes_in, end_of, number_in, with_number}
use Rattle.dex_fields.specs.Frame.{IsFramed}
use Rattle.dex_fields.proofs.FrameLaw.{IsFramed-with_number}
use Rattle.dex_fields.proofs.Places.{are_apart, bytes_in-other, number_in-other}
use Rattle.dex_fields.proofs.Writing.{length-with_number, number_in-with_number_apart}
use Rattle.dex_types.specs.Trader.{Account, Holding}
use Rattle.dex_orders.specs.Bits.{is_set}
use Rattle.dex_orders.specs.OrdersAccount.{account_of, client_field, id_field, slots_of}
use Rattle.dex_orders.proofs.SlotLaw.{slot_in-same, slots_of-same}

-- ---- one write

module _ (old new : List ℕ) (field : Field) (x : ℕ) (made : new ≡ with_number old field x) where
  -- another field that is written out
  pub number_kept : (other : Field) → are_apart other field ≡ true → number_in new other ≡ number_in old other
  number_kept other apart = ap (λ (l : List ℕ). number_in l other) made ∙ number_in-other old field x other apart

  pub bytes_kept : (other : Field) → are_apart other field ≡ true → bytes_in new other ≡ bytes_in old other
  bytes_kept other apart = ap (λ (l : List ℕ). bytes_in l other) made ∙ bytes_in-other old field x other apart

  pub length_kept : length new ≡ length old
  length_kept = ap length made ∙ length-with_number old field x

  pub framed_kept : 5 ≤ field.at → end_of field + 7 ≤ length old → IsFramed old → IsFramed new
  framed_kept behind before framed = subst IsFramed (sym made) (IsFramed-with_number old field x behind before framed)

  -- a part of the slots
  part_kept : (part : Field) → 109 ≤ part.at → end_of part ≤ 3213 → (end_of field ≤ 109) ⊎ (3213 ≤ field.at) → number_in new part ≡ number_in old part
  part_kept part behind before (inl h) = ap (λ (l : List ℕ). number_in l part) made ∙ number_in-with_number_apart old part field x (inr (omega arith))
  part_kept part behind before (inr h) = ap (λ (l : List ℕ). number_in l part) made ∙ number_in-with_number_apart old part field x (inl (omega arith))

  -- the slots stand between places 109 and 3,213
  pub slots_kept : (end_of field ≤ 109) ⊎ (3213 ≤ field.at) → slots_of new ≡ slots_of old
  slots_kept beside =
      slots_of-same old new (λ slot lt. slot_in-same old new slot
      (ap (λ (n : ℕ). is_set n slot) (part_kept FREE_SLOT_BITS (omega arith) (omega arith) beside))
      (ap (λ (n : ℕ). is_set n slot) (part_kept IS_BID_BITS (omega arith) (omega arith) beside))
      (part_kept (id_field slot) (omega arith) (omega arith) beside)
      (part_kept (client_field slot) (omega arith) (omega arith) beside))

-- ---- an account by its parts

abbrev pub account_by : List ℕ → ℕ → ℕ → ℕ → ℕ → ℕ → List (Option Holding) → Account
account_by person coin_free coin_total pc_free pc_total referrer slots = record {
  person = record { 0 = person };
  coin = record { free = coin_free; total = coin_total };
  pc = record { free = pc_free; total = pc_total };
  referrer = referrer;
  slots = slots;
}

pub account_of-by : (bytes person : List ℕ) (coin_free coin_total pc_free pc_total referrer : ℕ) (slots : List (Option Holding))
    → bytes_in bytes OWNER ≡ person → number_in bytes NATIVE_COIN_FREE ≡ coin_free → number_in bytes NATIVE_COIN_TOTAL ≡ coin_total
    → number_in bytes NATIVE_PC_FREE ≡ pc_free → number_in bytes NATIVE_PC_TOTAL ≡ pc_total → number_in bytes REFERRER_REBATES_ACCRUED ≡ referrer → slots_of bytes ≡ slots
    → account_of bytes ≡ account_by person coin_free coin_total pc_free pc_total referrer slots
account_of-by bytes person coin_free coin_total pc_free pc_total referrer slots e_person e_coin_free e_coin_total e_pc_free e_pc_total e_referrer e_slots =
    ap (λ (p : List ℕ). account_by p (number_in bytes NATIVE_COIN_FREE) (number_in bytes NATIVE_COIN_TOTAL) (number_in bytes NATIVE_PC_FREE) (number_in bytes NATIVE_PC_TOTAL) (number_in bytes REFERRER_REBATES_ACCRUED) (slots_of bytes)) e_person
    ∙ ap (λ (n : ℕ). account_by person n (number_in bytes NATIVE_COIN_TOTAL) (number_in bytes NATIVE_PC_FREE) (number_in bytes NATIVE_PC_TOTAL) (number_in bytes REFERRER_REBATES_ACCRUED) (slots_of bytes)) e_coin_free
    ∙ ap (λ (n : ℕ). account_by person coin_free n (number_in bytes NATIVE_PC_FREE) (number_in bytes NATIVE_PC_TOTAL) (number_in bytes REFERRER_REBATES_ACCRUED) (slots_of bytes)) e_coin_total
    ∙ ap (λ (n : ℕ). account_by person coin_free coin_total n (number_in bytes NATIVE_PC_TOTAL) (number_in bytes REFERRER_REBATES_ACCRUED) (slots_of bytes)) e_pc_free
    ∙ ap (λ (n : ℕ). account_by person coin_free coin_total pc_free n (number_in bytes REFERRER_REBATES_ACCRUED) (slots_of bytes)) e_pc_total
    ∙ ap (λ (n : ℕ). account_by person coin_free coin_total pc_free pc_total n (slots_of bytes)) e_referrer
    ∙ ap (account_by person coin_free coin_total pc_free pc_total referrer) e_slots

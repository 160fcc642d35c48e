-- The slots of an account, one by one, and accounts with equal slots.
use Rattle.std.proofs.Common.{◌≡◌, ◌≢◌, ℕ, ◌<◌, ◌≤◌, Bool, List, length, get_or, set, Option, Some, None, sym, ap, ◌∙◌, arith, inl, inr}
use Rattle.std.proofs.lemmas.Bool.{cases_eq, eq-eqb, ne_eqb}
use Rattle.std.proofs.lemmas.Grind.{get_or-set_at}
use Rattle.std.proofs.lemmas.List.{get_or-set_other, get_or_past, length-set}
use Rattle.std.proofs.lemmas.List.FromFn.{fill_by_all, get_or-map-range_with_len, length-map-range_with_len}
use Rattle.std.proofs.lemmas.Nat.Bits.{bit_at-lt}
use Rattle.std.specs.Int.{bit_at}
use Rattle.dex_fields.specs.declared.open_orders.TheConstants.{FREE_SLOT_BITS, IS_BID_BITS}
use Rattle.dex_fields.specs.Bytes.{number_in}
use Rattle.dex_types.specs.Trader.{Holding}
use Rattle.dex_orders.specs.Bits.{is_set}
use Rattle.dex_orders.specs.OrdersAccount.{client_field, holding_of, id_field, slot_in, slots_of}

-- ---- one slot

-- a slot whose four parts are known
pub slot_in-from : (bytes : List ℕ) (slot free_bits bid_bits id client : ℕ) → number_in bytes FREE_SLOT_BITS ≡ free_bits → number_in bytes IS_BID_BITS ≡ bid_bits
    → number_in bytes (id_field slot) ≡ id → number_in bytes (client_field slot) ≡ client
    → slot_in bytes slot ≡ holding_of (is_set free_bits slot) (is_set bid_bits slot) id client
unfolding slot_in
slot_in-from bytes slot free_bits bid_bits id client same_free same_bid same_id same_client =
    let made : ℕ → ℕ → ℕ → ℕ → Option Holding = λ f b i c. holding_of (is_set f slot) (is_set b slot) i c in
    ap (λ (f : ℕ). made f (number_in bytes IS_BID_BITS) (number_in bytes (id_field slot)) (number_in bytes (client_field slot))) same_free
    ∙ ap (λ (b : ℕ). made free_bits b (number_in bytes (id_field slot)) (number_in bytes (client_field slot))) same_bid
    ∙ ap (λ (i : ℕ). made free_bits bid_bits i (number_in bytes (client_field slot))) same_id
    ∙ ap (made free_bits bid_bits id) same_client

-- a slot whose parts are those of another account
pub slot_in-same : (old new : List ℕ) (slot : ℕ)
    → is_set (number_in new FREE_SLOT_BITS) slot ≡ is_set (number_in old FREE_SLOT_BITS) slot
    → is_set (number_in new IS_BID_BITS) slot ≡ is_set (number_in old IS_BID_BITS) slot
    → number_in new (id_field slot) ≡ number_in old (id_field slot) → number_in new (client_field slot) ≡ number_in old (client_field slot)
    → slot_in new slot ≡ slot_in old slot
unfolding slot_in
slot_in-same old new slot same_free same_bid same_id same_client =
    ap (λ (f : Bool). holding_of f (is_set (number_in new IS_BID_BITS) slot) (number_in new (id_field slot)) (number_in new (client_field slot))) same_free
    ∙ ap (λ (b : Bool). holding_of (is_set (number_in old FREE_SLOT_BITS) slot) b (number_in new (id_field slot)) (number_in new (client_field slot))) same_bid
    ∙ ap (λ (i : ℕ). holding_of (is_set (number_in old FREE_SLOT_BITS) slot) (is_set (number_in old IS_BID_BITS) slot) i (number_in new (client_field slot))) same_id
    ∙ ap (holding_of (is_set (number_in old FREE_SLOT_BITS) slot) (is_set (number_in old IS_BID_BITS) slot) (number_in old (id_field slot))) same_client

-- 1 where the slot is free, as its bit is
abbrev pub free_bit : Option Holding → ℕ
free_bit None = 1
free_bit (Some held) = 0

pub free_bit-slot_in : (bytes : List ℕ) (slot : ℕ) → free_bit (slot_in bytes slot) ≡ bit_at (number_in bytes FREE_SLOT_BITS) slot
unfolding slot_in
free_bit-slot_in bytes slot =
    let bit : ℕ = bit_at (number_in bytes FREE_SLOT_BITS) slot in
    let held : Bool → ℕ = λ b. free_bit (holding_of b (is_set (number_in bytes IS_BID_BITS) slot) (number_in bytes (id_field slot)) (number_in bytes (client_field slot))) in
    elim (cases_eq bit 1) [
      | inl one ↦ ap held (eq-eqb bit 1 one) ∙ sym one
      | inr other ↦
          let zero : 0 ≡ bit = omega (arith, bit_at-lt (number_in bytes FREE_SLOT_BITS) slot) in
          ap held (ne_eqb bit 1 other) ∙ zero
    ]

-- ---- all of them

pub length-slots_of : (bytes : List ℕ) → length (slots_of bytes) ≡ 128
unfolding slots_of
length-slots_of bytes = length-map-range_with_len (slot_in bytes) 0 128

pub get_or-slots_of : (bytes : List ℕ) (slot : ℕ) → slot < 128 → get_or (slots_of bytes) slot None ≡ slot_in bytes slot
unfolding slots_of
get_or-slots_of bytes slot lt = get_or-map-range_with_len (slot_in bytes) 0 128 slot slot None lt (omega arith)

-- there is no slot from 128 on
pub get_or-slots_of_past : (bytes : List ℕ) (slot : ℕ) → 128 ≤ slot → get_or (slots_of bytes) slot None ≡ None
get_or-slots_of_past bytes slot past = get_or_past (slots_of bytes) slot None (omega (arith, length-slots_of bytes))

-- slots that are known one by one
pub slots_of-by_each : (bytes : List ℕ) (slots : List (Option Holding)) → length slots ≡ 128
    → ((slot : ℕ) → slot < 128 → get_or slots slot None ≡ slot_in bytes slot) → slots_of bytes ≡ slots
unfolding slots_of
slots_of-by_each bytes slots size each = sym (fill_by_all (slot_in bytes) slots 128 None size each)

pub slots_of-same : (old new : List ℕ) → ((slot : ℕ) → slot < 128 → slot_in new slot ≡ slot_in old slot) → slots_of new ≡ slots_of old
slots_of-same old new same =
    slots_of-by_each new (slots_of old) (length-slots_of old) (λ slot lt. get_or-slots_of old slot lt ∙ sym (same slot lt))

-- one slot is another
pub slots_of-set : (old new : List ℕ) (slot : ℕ) (v : Option Holding) → slot < 128 → slot_in new slot ≡ v
    → ((other : ℕ) → other < 128 → other ≢ slot → slot_in new other ≡ slot_in old other) → slots_of new ≡ set (slots_of old) slot v
slots_of-set old new slot v lt here others =
    slots_of-by_each new (set (slots_of old) slot v) (length-set (slots_of old) slot v ∙ length-slots_of old) (λ other low.
    elim (cases_eq other slot) [
      | inl same ↦ get_or-set_at (slots_of old) slot other v None same (omega (arith, length-slots_of old)) ∙ sym here ∙ ap (slot_in new) (sym same)
      | inr apart ↦ get_or-set_other (slots_of old) slot other v None apart ∙ get_or-slots_of old other low ∙ sym (others other low apart)
    ])

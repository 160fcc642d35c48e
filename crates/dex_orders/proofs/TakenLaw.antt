-- How many slots are taken, and which is the lowest free one, by the bits of the mask.
use Rattle.std.proofs.Common.{◌≡◌, ℕ, zero, suc, ◌+◌, ◌*◌, ◌/◌, ◌%◌, ◌^◌, ◌<◌, List, [], ◌∷◌, length, get_or, Option, Some, None, refl, sym, ap, ◌∙◌, arith}
use Rattle.std.proofs.Math.Nat.{pow-suc}
use Rattle.std.proofs.lemmas.Nat.{div_below, zero_from_ones}
use Rattle.std.proofs.lemmas.Nat.Bits.{bit_at-suc, bit_at-trailing_zeros, bit_at_lowest}
use Rattle.std.specs.Int.{bit_at, trailing_zeros, w128}
use Rattle.std.specs.Prelude.{count_ones}
use lib.Count.{ones-le, ones_step}
use Rattle.dex_fields.specs.declared.open_orders.TheConstants.{FREE_SLOT_BITS}
use Rattle.dex_fields.specs.Bytes.{number_in}
use Rattle.dex_types.specs.Trader.{Holding, free_slot}
use Rattle.dex_types.specs.Upkeep.{taken_slots}
use Rattle.dex_orders.specs.OrdersAccount.{slots_of}
use Rattle.dex_orders.proofs.SlotLaw.{free_bit, free_bit-slot_in, get_or-slots_of, length-slots_of}

-- ---- a list of slots and a mask whose bits are set where they are free

ones-zero : (n : ℕ) → n ≡ 0 → count_ones n ≡ 0
ones-zero n none =
    let low : n < 2 ^ 0 = omega (arith, none) in
    omega (arith, ones-le 0 n low)

-- a slot in front of others
with_first : (slot : Option Holding) (slots : List (Option Holding)) (bits : ℕ) → free_bit slot ≡ bits % 2
    → taken_slots slots + count_ones (bits / 2) ≡ length slots → taken_slots (slot ∷ slots) + count_ones bits ≡ suc (length slots)
with_first None slots bits first rest = omega (arith, ones_step bits)
with_first (Some held) slots bits first rest = omega (arith, ones_step bits)

taken-ones : (slots : List (Option Holding)) (bits : ℕ) → bits < 2 ^ length slots
    → ((i : ℕ) → i < length slots → free_bit (get_or slots i None) ≡ bit_at bits i) → taken_slots slots + count_ones bits ≡ length slots
taken-ones [] bits low marks = omega (arith, ones-zero bits (omega arith))
taken-ones (slot ∷ slots) bits low marks =
    let wide : 2 ^ suc (length slots) ≡ 2 ^ length slots * 2 = pow-suc 2 (length slots) in
    let half : bits / 2 < 2 ^ length slots = div_below bits 2 (2 ^ length slots) (omega arith) (omega (arith, wide)) in
    let rest : taken_slots slots + count_ones (bits / 2) ≡ length slots = taken-ones slots (bits / 2) half (λ i lt. marks (suc i) (omega arith) ∙ bit_at-suc bits i) in
    let first : free_bit slot ≡ bits % 2 = marks 0 (omega arith) ∙ bit_at_lowest bits in
    with_first slot slots bits first rest

-- the first free slot is the lowest one
free_slot-at : (slots : List (Option Holding)) (k : ℕ) → k < length slots → free_bit (get_or slots k None) ≡ 1
    → ((i : ℕ) → i < k → free_bit (get_or slots i None) ≡ 0) → free_slot slots ≡ k
free_slot-at [] k lt here below = absurd (omega arith)
free_slot-at (None ∷ slots) zero lt here below = refl
free_slot-at (None ∷ slots) (suc k) lt here below = absurd (let first = below 0 (omega arith) in cc)
free_slot-at ((Some held) ∷ slots) zero lt here below = absurd cc
free_slot-at ((Some held) ∷ slots) (suc k) lt here below =
    let later : free_slot slots ≡ k = free_slot-at slots k (omega arith) here (λ i before. below (suc i) (omega arith)) in
    omega arith

-- a slot that its bit says is free
none_from_bit : (slot : Option Holding) → free_bit slot ≡ 1 → slot ≡ None
none_from_bit None h = refl
none_from_bit (Some held) h = absurd cc

-- ---- the slots of an account

module _ (bytes : List ℕ) (low : number_in bytes FREE_SLOT_BITS < 2 ^ 128) where
  abbrev bits : ℕ
  bits = number_in bytes FREE_SLOT_BITS

  marks : (i : ℕ) → i < 128 → free_bit (get_or (slots_of bytes) i None) ≡ bit_at bits i
  marks i lt = ap free_bit (get_or-slots_of bytes i lt) ∙ free_bit-slot_in bytes i

  pub taken_slots-slots_of : taken_slots (slots_of bytes) + count_ones bits ≡ 128
  taken_slots-slots_of =
      let size = length-slots_of bytes in
      let fits : bits < 2 ^ length (slots_of bytes) = rw size low in
      taken-ones (slots_of bytes) bits fits (λ i lt. marks i (omega (arith, size))) ∙ size

  -- all slots are taken exactly where no bit is set
  pub full_from_zero : bits ≡ 0 → taken_slots (slots_of bytes) ≡ 128
  full_from_zero none = omega (arith, taken_slots-slots_of, ones-zero bits none)

  pub zero_from_full : taken_slots (slots_of bytes) ≡ 128 → bits ≡ 0
  zero_from_full full = zero_from_ones bits (omega (arith, taken_slots-slots_of))

  module _ (some : 0 < bits) where
    abbrev lowest : ℕ
    lowest = trailing_zeros w128 bits

    pub lowest_lt : lowest < 128
    lowest_lt = (bit_at-trailing_zeros w128 bits some low).0

    lowest_bit : free_bit (get_or (slots_of bytes) lowest None) ≡ 1
    lowest_bit = marks lowest lowest_lt ∙ (bit_at-trailing_zeros w128 bits some low).1

    pub lowest-free : get_or (slots_of bytes) lowest None ≡ None
    lowest-free = none_from_bit (get_or (slots_of bytes) lowest None) lowest_bit

    pub lowest-is : lowest ≡ free_slot (slots_of bytes)
    lowest-is =
        sym (free_slot-at (slots_of bytes) lowest (omega (arith, lowest_lt, length-slots_of bytes)) lowest_bit
        (λ i before. marks i (omega (arith, lowest_lt)) ∙ (bit_at-trailing_zeros w128 bits some low).2 i before))

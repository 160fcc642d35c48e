-- which slots of an account are taken, by their bits: from one that is set to the next, and after the last
use Rattle.std.proofs.Common.{ℕ, zero, suc, ◌≡◌, ◌+◌, ◌-◌, ◌/◌, ◌%◌, ◌^◌, ◌<◌, ◌≤◌, Bool, true, false, eqb, min, List, ◌∷◌, Option, Some, None, [], length, drop, get_or, refl, sym, ap, ◌∙◌, subst, arith, inl, inr}
use Rattle.std.proofs.lemmas.Bool.{cases_lt, cond_both}
use Rattle.std.proofs.lemmas.List.{at_drop_all, at_drop_more}
use Rattle.std.proofs.lemmas.Nat.{leading_length, shr-shr, shr_le}
use Rattle.std.proofs.lemmas.Nat.Bits.{bit_at-lt, bit_at-trailing_zeros, bit_at-zero, bit_at_above, bit_at_and, bit_at_not}
use Rattle.std.specs.Int.{bit_at, bit_not, leading_zeros, trailing_zeros, w128}
use Rattle.std.specs.Int.Bits.{bit_and}
use Rattle.std.specs.Prelude.{IfSome}
use Rattle.dex_fields.specs.declared.open_orders.TheConstants.{FREE_SLOT_BITS, IS_BID_BITS}
use Rattle.dex_fields.specs.Bytes.{number_in}
use Rattle.dex_types.specs.declared.terms.Side.{Side}
use Rattle.dex_types.specs.declared.terms.Side.TheVariants.{Ask, Bid}
use Rattle.dex_types.specs.Trader.{Holding}
use Rattle.dex_orders.specs.Bits.{is_set}
use Rattle.dex_orders.specs.OrdersAccount.{client_field, holding_of, id_field, side_by_bit, slot_in, slots_of}
use Rattle.dex_orders.proofs.SlotLaw.{get_or-slots_of, length-slots_of, slot_in-from}
use Rattle.dex_cancel_slots.specs.Slots.{AreBitsOf, AreClear, AreFree, IsClientOf, IsIdOf, any_holding, held_in, is_held, is_on}

-- ---- from one bit that is set to the next

-- a bit of a number that is shifted down
shifted : (n k i : ℕ) → bit_at (n / 2 ^ k) i ≡ bit_at n (k + i)
shifted n k i = ap (λ x. x % 2) (shr-shr n k i)

module _ (bits : ℕ) (low : bits < 2 ^ 128) (from : ℕ) where
  clear-at : (place : ℕ) → from ≤ place → bit_at (bits / 2 ^ from) (place - from) ≡ 0 → is_set bits place ≡ false
  clear-at place at clear =
      let same : from + (place - from) ≡ place = omega (arith, at) in
      let bit : bit_at bits place ≡ 0 = ap (bit_at bits) (sym same) ∙ sym (shifted bits from (place - from)) ∙ clear in
      ap (λ b. eqb b 1) bit

  -- all are clear where no bit is left
  pub all-clear : bits / 2 ^ from ≡ 0 → (to : ℕ) → AreClear bits from to
  all-clear none to place at below = clear-at place at (ap (λ n. bit_at n (place - from)) none ∙ bit_at-zero (place - from))

  module _ (some : 0 < bits / 2 ^ from) where
    abbrev gap : ℕ
    gap = trailing_zeros w128 (bits / 2 ^ from)

    lowest : (gap < 128) × (bit_at (bits / 2 ^ from) gap ≡ 1) × ((i : ℕ) → i < gap → bit_at (bits / 2 ^ from) i ≡ 0)
    lowest = bit_at-trailing_zeros w128 (bits / 2 ^ from) some (omega (arith, low, shr_le bits from))

    pub next-within : from + gap < 128
    next-within =
        elim (cases_lt (from + gap) 128) [
          | inl below ↦ below
          | inr past ↦ absurd (omega (arith, lowest.1, shifted bits from gap, bit_at_above bits 128 (from + gap) low past))
        ]

    -- the lowest bit that is left is set, and those before it are clear
    pub next-set : is_set bits (from + gap) ≡ true
    next-set = ap (λ b. eqb b 1) (sym (shifted bits from gap) ∙ lowest.1)

    pub next-clear : AreClear bits from (from + gap)
    next-clear place at below = clear-at place at (lowest.2 (place - from) (omega (arith, at, below)))

-- ---- the bits of the slots

-- whether a slot holds what passes a test, by its bits
abbrev held_by_bits : (Holding → Bool) → ℕ → ℕ → ℕ → ℕ → Bool
held_by_bits test free bid id client = is_held test (holding_of (eqb free 1) (eqb bid 1) id client)

taken-by_bit : (free bid id client : ℕ) → free < 2 → eqb (1 - free) 1 ≡ held_by_bits any_holding free bid id client
taken-by_bit zero bid id client low = refl
taken-by_bit (suc zero) bid id client low = refl
taken-by_bit (suc (suc free)) bid id client low = absurd (omega (arith, low))

bid-by_bits : (free bid id client : ℕ) → free < 2 → bid < 2 → eqb (min (1 - free) bid) 1 ≡ held_by_bits (is_on Bid) free bid id client
bid-by_bits zero zero id client low small = refl
bid-by_bits zero (suc zero) id client low small = refl
bid-by_bits (suc zero) zero id client low small = refl
bid-by_bits (suc zero) (suc zero) id client low small = refl
bid-by_bits free (suc (suc bid)) id client low small = absurd (omega (arith, small))
bid-by_bits (suc (suc free)) bid id client low small = absurd (omega (arith, low))

ask-by_bits : (free bid id client : ℕ) → free < 2 → bid < 2 → eqb (min (1 - free) (1 - bid)) 1 ≡ held_by_bits (is_on Ask) free bid id client
ask-by_bits zero zero id client low small = refl
ask-by_bits zero (suc zero) id client low small = refl
ask-by_bits (suc zero) zero id client low small = refl
ask-by_bits (suc zero) (suc zero) id client low small = refl
ask-by_bits free (suc (suc bid)) id client low small = absurd (omega (arith, small))
ask-by_bits (suc (suc free)) bid id client low small = absurd (omega (arith, low))

module _ (bytes : List ℕ) (free bid : ℕ) (free_is : free ≡ number_in bytes FREE_SLOT_BITS) (bid_is : bid ≡ number_in bytes IS_BID_BITS)
    (free_low : free < 2 ^ 128) where
  by-bits : (test : Holding → Bool) (slot : ℕ) → slot < 128
      → held_by_bits test (bit_at free slot) (bit_at bid slot) (number_in bytes (id_field slot)) (number_in bytes (client_field slot))
      ≡ is_held test (get_or (slots_of bytes) slot None)
  by-bits test slot within =
      sym (ap (is_held test)
      (get_or-slots_of bytes slot within ∙ slot_in-from bytes slot free bid (number_in bytes (id_field slot)) (number_in bytes (client_field slot))
      (sym free_is) (sym bid_is) refl refl))

  -- those that are not free
  bits-taken : AreBitsOf any_holding (slots_of bytes) (bit_not w128 free)
  bits-taken slot within =
      ap (λ n. eqb n 1) (bit_at_not w128 free slot free_low within)
      ∙ taken-by_bit (bit_at free slot) (bit_at bid slot) (number_in bytes (id_field slot)) (number_in bytes (client_field slot)) (bit_at-lt free slot)
      ∙ by-bits any_holding slot within

  -- of these the bids and the asks
  pub bits-bid : AreBitsOf (is_on Bid) (slots_of bytes) (bit_and (bit_not w128 free) bid)
  bits-bid slot within =
      ap (λ n. eqb n 1) (bit_at_and (bit_not w128 free) bid slot ∙ ap (λ n. min n (bit_at bid slot)) (bit_at_not w128 free slot free_low within))
      ∙ bid-by_bits (bit_at free slot) (bit_at bid slot) (number_in bytes (id_field slot)) (number_in bytes (client_field slot)) (bit_at-lt free slot) (bit_at-lt bid slot)
      ∙ by-bits (is_on Bid) slot within

  pub bits-ask : bid < 2 ^ 128 → AreBitsOf (is_on Ask) (slots_of bytes) (bit_and (bit_not w128 free) (bit_not w128 bid))
  bits-ask bid_low slot within =
      ap (λ n. eqb n 1) (bit_at_and (bit_not w128 free) (bit_not w128 bid) slot
      ∙ ap (λ n. min n (bit_at (bit_not w128 bid) slot)) (bit_at_not w128 free slot free_low within)
      ∙ ap (min (1 - bit_at free slot)) (bit_at_not w128 bid slot bid_low within))
      ∙ ask-by_bits (bit_at free slot) (bit_at bid slot) (number_in bytes (id_field slot)) (number_in bytes (client_field slot)) (bit_at-lt free slot) (bit_at-lt bid slot)
      ∙ by-bits (is_on Ask) slot within

-- ---- what stands in a slot

module _ (bytes : List ℕ) (slot : ℕ) (within : slot < 128) where
  -- what is so of each holding with the slot's id and client id is so of what it holds
  of-slot : (P : Holding → Type 0)
      → ((side : Side) → P (record { id = number_in bytes (id_field slot); side = side; client = number_in bytes (client_field slot) }))
      → IfSome (get_or (slots_of bytes) slot None) P
  unfolding slot_in
  of-slot P each =
      subst (λ h. IfSome h P) (sym (get_or-slots_of bytes slot within))
      (cond_both (is_set (number_in bytes FREE_SLOT_BITS) slot) None
      (Some (record {
        id = number_in bytes (id_field slot);
        side = side_by_bit (is_set (number_in bytes IS_BID_BITS) slot);
        client = number_in bytes (client_field slot);
      }))
      (λ h. IfSome h P) (λ free. tt) (λ held. each (side_by_bit (is_set (number_in bytes IS_BID_BITS) slot))))

  pub client-of : (client : ℕ) → client ≡ number_in bytes (client_field slot) → IsClientOf (get_or (slots_of bytes) slot None) client
  client-of client is = of-slot (λ h. h.client ≡ client) (λ side. sym is)

  pub id-of : (id : ℕ) → id ≡ number_in bytes (id_field slot) → IsIdOf (get_or (slots_of bytes) slot None) id
  id-of id is = of-slot (λ h. h.id ≡ id) (λ side. sym is)

-- ---- behind the last taken slot

none-held : (held : Option Holding) → is_held any_holding held ≡ false → held ≡ None
none-held None is = refl
none-held (Some held) is = absurd (cc)

-- after the highest bit of those that are not free, a slot is free
pub free_behind : (bytes : List ℕ) (slot : ℕ) → slot < 128 → number_in bytes FREE_SLOT_BITS < 2 ^ 128
    → 128 - leading_zeros w128 (bit_not w128 (number_in bytes FREE_SLOT_BITS)) ≤ slot → held_in (slots_of bytes) slot ≡ None
free_behind bytes slot below low at =
    let free : ℕ = number_in bytes FREE_SLOT_BITS in
    let taken : ℕ = bit_not w128 free in
    let top = leading_length 128 taken (omega arith) in
    let bit : bit_at taken slot ≡ 0 = bit_at_above taken top.0 slot top.2 (omega (arith, top.1, at)) in
    none-held (held_in (slots_of bytes) slot)
    (sym (bits-taken bytes free (number_in bytes IS_BID_BITS) refl refl low slot below) ∙ ap (λ b. eqb b 1) bit)

-- what is the same whether a free slot comes first or not is the same of the slots from one number on and from another,
-- where those between are free
skip : {Y : Type 0} (F : List (Option Holding) → Y) → ((later : List (Option Holding)) → F (None ∷ later) ≡ F later)
    → (slots : List (Option Holding)) (from to gap : ℕ) → from + gap ≡ to → to ≤ length slots → AreFree slots from to → F (drop from slots) ≡ F (drop to slots)
skip F passes slots from to zero sum most free = let same : from ≡ to = omega (arith, sum) in ap (λ n. F (drop n slots)) same
skip F passes slots from to (suc gap) sum most free =
    at_drop_more F slots from None (omega (arith, sum, most))
    ∙ ap (λ h. F (h ∷ drop (from + 1) slots)) (free from (omega arith) (omega (arith, sum)))
    ∙ passes (drop (from + 1) slots)
    ∙ skip F passes slots (from + 1) to gap (omega (arith, sum)) most (λ slot at below. free slot (omega (arith, at)) below)

-- so with all slots from there on
pub past-taken : {Y : Type 0} (F : List (Option Holding) → Y) → ((later : List (Option Holding)) → F (None ∷ later) ≡ F later)
    → (bytes : List ℕ) (end slot : ℕ) → end ≤ slot → AreFree (slots_of bytes) end 128 → F (drop slot (slots_of bytes)) ≡ F []
past-taken F passes bytes end slot past free =
    elim (cases_lt slot 128) [
      | inl below ↦
          skip F passes (slots_of bytes) slot 128 (128 - slot) (omega (arith, below)) (omega (arith, length-slots_of bytes))
          (λ later at within. free later (omega (arith, past, at)) within)
          ∙ at_drop_all F (slots_of bytes) 128 (omega (arith, length-slots_of bytes))
      | inr above ↦ at_drop_all F (slots_of bytes) slot (omega (arith, length-slots_of bytes, above))
    ]

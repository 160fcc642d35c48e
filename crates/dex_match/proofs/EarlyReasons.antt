-- when an account has no free slot
use Rattle.std.proofs.Common.{◌≡◌, ℕ, ◌≤◌, List, [], ◌∷◌, Option, Some, None, length, sym, ◌∙◌, arith, refl}
use Rattle.std.proofs.lemmas.Bool.{cond-true, eq-eqb}
use Rattle.dex_orders.specs.OrdersAccount.{account_of, slots_of}
use Rattle.dex_orders.proofs.SlotLaw.{length-slots_of}
use Rattle.dex_types.specs.declared.refusals.Refusal.TheVariants.{TooManyOpenOrders}
use Rattle.dex_types.specs.Reasons.{no_slot}
use Rattle.dex_types.specs.Trader.{Holding, free_slot}
use Rattle.dex_types.specs.Upkeep.{taken_slots}

-- no more slots are taken than there are
taken_slots-le : (slots : List (Option Holding)) → taken_slots slots ≤ length slots
taken_slots-le [] = omega arith
taken_slots-le (None ∷ slots) = omega (arith, taken_slots-le slots)
taken_slots-le ((Some held) ∷ slots) = omega (arith, taken_slots-le slots)

-- where all are taken none is free
free_slot-none : (slots : List (Option Holding)) → taken_slots slots ≡ length slots → free_slot slots ≡ length slots
free_slot-none [] all = refl
free_slot-none (None ∷ slots) all = absurd (omega (arith, all, taken_slots-le slots))
free_slot-none ((Some held) ∷ slots) all = omega (arith, free_slot-none slots (omega (arith, all)))

-- then 128 is answered as the lowest
pub free_slot-all : (bytes : List ℕ) → taken_slots (account_of bytes).slots ≡ 128 → free_slot (account_of bytes).slots ≡ 128
free_slot-all bytes all = free_slot-none (slots_of bytes) (all ∙ sym (length-slots_of bytes)) ∙ length-slots_of bytes

pub no_slot-all : (bytes : List ℕ) → taken_slots (account_of bytes).slots ≡ 128 → no_slot (account_of bytes) ≡ Some TooManyOpenOrders
no_slot-all bytes all =
    cond-true _ _ _ (eq-eqb (free_slot (slots_of bytes)) 128 (free_slot-all bytes all))

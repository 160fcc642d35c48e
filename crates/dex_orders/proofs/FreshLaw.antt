-- Where an order can come in: no slot holds it.
use Rattle.std.proofs.Common.{◌≡◌, ℕ, zero, suc, ◌<◌, false, List, [], ◌∷◌, length, get_or, set, Option, Some, None, IsSome, refl, sym, ap, subst, ◌∙◌, arith, inl, inr}
use Rattle.std.proofs.lemmas.Grind.{get_or-set_at}
use Rattle.dex_types.specs.declared.terms.Side.{Side}
use Rattle.dex_types.specs.Trader.{Holding}
use Rattle.dex_types.specs.Upkeep.{taken_slots}
use Rattle.dex_orders.specs.OrdersAccount.{HasNoOrder, holds_order}
use Rattle.dex_orders.proofs.DistinctLaw.{held_after}

-- where no slot is taken, each is free
pub free-from_untaken : (slots : List (Option Holding)) → taken_slots slots ≡ 0 → (slot : ℕ) → get_or slots slot None ≡ None
free-from_untaken [] none slot = refl
free-from_untaken (None ∷ slots) none zero = refl
free-from_untaken (None ∷ slots) none (suc slot) = free-from_untaken slots none slot
free-from_untaken ((Some held) ∷ slots) none slot = absurd (omega arith)

-- and so none holds an order
pub HasNoOrder-from_untaken : (id : ℕ) (side : Side) (slots : List (Option Holding)) → taken_slots slots ≡ 0 → HasNoOrder id side slots
HasNoOrder-from_untaken id side slots none slot = ap (holds_order id side) (free-from_untaken slots none slot)

-- a slot that changes brings in no more than what it holds
pub HasNoOrder-set : (id : ℕ) (side : Side) (slots : List (Option Holding)) (slot : ℕ) (v : Option Holding) → HasNoOrder id side slots
    → holds_order id side v ≡ false → HasNoOrder id side (set slots slot v)
HasNoOrder-set id side slots slot v fresh other k =
    elim (held_after slots slot v k) [
      | inl same ↦ ap (holds_order id side) same ∙ fresh k
      | inr here ↦ ap (holds_order id side) here.1 ∙ other
    ]

-- a slot that an order comes into is taken
pub IsSome-set : (slots : List (Option Holding)) (slot : ℕ) (held : Holding) → slot < length slots → IsSome (get_or (set slots slot (Some held)) slot None)
IsSome-set slots slot held lt = subst IsSome (sym (get_or-set_at slots slot slot (Some held) None refl lt)) refl

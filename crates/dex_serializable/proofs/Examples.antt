-- Calls that no lane makes.
use Rattle.std.proofs.Common.{◌≡◌, ◌<◌, ◌&&◌, ◌||◌, not, Bool, true, false, eqb, [], ◌∷◌, refl, sym, ap, ◌∙◌, arith}
use Rattle.dex_world.proofs.Common.{Call, alone, false≢true, is_held, is_refused}
use Rattle.dex_serializable.proofs.Common.{AreAllOrNone, IsBefore, Stamped, number_in}

-- two calls of one number with two stamps
two-stamps : (one other : Stamped Call) → eqb (number_in one) (number_in other) ≡ true → one.stamp < other.stamp → IsBefore one other → ⊥
two-stamps one other same less before = let stamp = before.together same in omega (arith, less, stamp)

-- an item of which one row was refused and one acted
half-done : (one other : Stamped Call) → is_refused one.item ≡ true → is_refused other.item ≡ false → is_held other.item ≡ false
    → AreAllOrNone (record { first = one; others = other ∷ [] }) → ⊥
half-done one other refused spared acted all =
    false≢true
    (sym acted
    ∙ all 1 other (omega arith)
    ∙ ap (λ (b : Bool). (b || (is_refused other.item || false)) && not (is_refused other.item)) refused
    ∙ ap (λ (b : Bool). true && not b) spared)

-- a row alone that was held back
held-alone : (call : Stamped Call) → is_held call.item ≡ true → AreAllOrNone (alone call) → ⊥
held-alone call held all = false≢true (none (is_refused call.item) ∙ sym (all 0 call (omega arith)) ∙ held)
  where
    none : (b : Bool) → false ≡ ((b || false) && not b)
    none true = refl
    none false = refl

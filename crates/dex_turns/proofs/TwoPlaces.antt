-- Two places of a list, written one after the other.
use Rattle.std.proofs.Common.{◌≡◌, ℕ, zero, suc, ◌<◌, List, [], ◌∷◌, get_or, length, set, refl, sym, ap, ◌∙◌, arith}
use Rattle.std.proofs.lemmas.List.{get_or-set_other, get_or-set_same, length-set}

module _ {A : Type 0} where
  pub set-again : (xs : List A) (i : ℕ) (a b : A) → set (set xs i a) i b ≡ set xs i b
  set-again [] i a b = refl
  set-again (x ∷ xs) zero a b = refl
  set-again (x ∷ xs) (suc i) a b = ap (λ (l : List A). x ∷ l) (set-again xs i a b)

  pub set-swap : (xs : List A) (i j : ℕ) (a b : A) → (i ≡ j → ⊥) → set (set xs i a) j b ≡ set (set xs j b) i a
  set-swap [] i j a b apart = refl
  set-swap (x ∷ xs) zero zero a b apart = absurd (apart refl)
  set-swap (x ∷ xs) zero (suc j) a b apart = refl
  set-swap (x ∷ xs) (suc i) zero a b apart = refl
  set-swap (x ∷ xs) (suc i) (suc j) a b apart = ap (λ (l : List A). x ∷ l) (set-swap xs i j a b (λ same. apart (ap suc same)))

  module _ (xs : List A) (i j : ℕ) (a b : A) (apart : i ≡ j → ⊥) (within : i < length xs) (within_next : j < length xs) where
    -- what stands at the first, when both are written
    pub get-first : (d : A) → get_or (set (set xs i a) j b) i d ≡ a
    get-first d = get_or-set_other (set xs i a) j i b d apart ∙ get_or-set_same xs i a d within

    -- and at the second, when the first is written again
    pub get-second : (again d : A) → get_or (set (set (set xs i a) j b) i again) j d ≡ b
    get-second again d =
        get_or-set_other (set (set xs i a) j b) i j again d (λ same. apart (sym same))
        ∙ get_or-set_same (set xs i a) j b d (omega (arith, within_next, length-set xs i a))

    -- and when both are written again
    pub set-both : (one other : A) → set (set (set (set xs i a) j b) i one) j other ≡ set (set xs i one) j other
    set-both one other =
        ap (λ (l : List A). set l j other)
        (ap (λ (l : List A). set l i one) (set-swap xs i j a b apart)
        ∙ set-again (set xs j b) i a one
        ∙ set-swap xs j i b one (λ same. apart (sym same)))
        ∙ set-again (set xs i one) j b other

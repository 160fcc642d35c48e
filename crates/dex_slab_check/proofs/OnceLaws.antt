-- Lists of nodes of which none is met twice.
use Rattle.std.proofs.Common.{◌≡◌, ◌||◌, ℕ, ◌<◌, ◌≤◌, ◌⊎◌, inl, inr, Bool, true, false, eqb, List, [], ◌∷◌, ◌++◌, length, sym, ap, ◌∙◌, arith}
use Rattle.std.specs.List.{AllByRecursion, IsDistinct, list_any}
use Rattle.std.proofs.lemmas.Bool.{cases_lt, ne_eqb}
use Rattle.std.proofs.lemmas.Bool.Decides.{eqb_tells}
use Rattle.std.proofs.lemmas.Map.Steps.{length-le_from_distinct_below}
use Rattle.dex_slab.specs.Slab.{times}
use Rattle.dex_slab.proofs.Times.{times-append}

-- what is met among a node and the nodes of two lists is the node, or met in one of them
pub met_cases : (x first : ℕ) (left right : List ℕ) → 1 ≤ times x (first ∷ (left ++ right)) → (first ≡ x) ⊎ ((1 ≤ times x left) ⊎ (1 ≤ times x right))
met_cases x first left right met =
    elim (eqb_tells first x) [
      | inl here ↦ inl here.1
      | inr not ↦ elim (cases_lt 0 (times x left)) [
        | inl some ↦ inr (inl some)
        | inr none ↦ inr (inr (omega (arith, times-append x left right, not.1)))
      ]
    ]

-- a node that is not met has no place
absent : (x : ℕ) (xs : List ℕ) → times x xs ≡ 0 → AllByRecursion (λ y. eqb x y ≡ false) xs
absent x [] none = tt
absent x (y ∷ xs) none = (ne_eqb x y (λ is. omega arith), absent x xs (omega arith))

distinct : (xs : List ℕ) → ((x : ℕ) → times x xs ≤ 1) → IsDistinct eqb xs
unfolding IsDistinct
distinct [] once = tt
distinct (x ∷ xs) once =
    (absent x xs (let at_most = once x in omega arith), distinct xs (λ y. let at_most = once y in omega arith))

found : (x : ℕ) (xs : List ℕ) → list_any (eqb x) xs ≡ true → 1 ≤ times x xs
found x [] any = absurd cc
found x (y ∷ xs) any =
    elim (eqb_tells x y) [
      | inl is ↦ let here : x ≡ y = is.1 in omega arith
      | inr not ↦ let later = found x xs (ap (λ (b : Bool). b || list_any (eqb x) xs) (sym not.0) ∙ any) in omega arith
    ]

-- numbers below a bound, none of which is met twice, are at most as many as the bound
pub length-once : (xs : List ℕ) (bound : ℕ) → ((x : ℕ) → times x xs ≤ 1) → ((x : ℕ) → 1 ≤ times x xs → x < bound) → length xs ≤ bound
length-once xs bound once below = length-le_from_distinct_below xs bound (distinct xs once) (λ q any. below q (found q xs any))

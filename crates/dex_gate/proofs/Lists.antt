-- Lists read by `get_elem?`, and what holds of each element.
use Rattle.std.proofs.Common.{◌≡◌, ℕ, zero, suc, List, [], ◌∷◌, ◌++◌, map, set, All, sym, refl, ap, ◌∙◌, arith, append_assoc, ◌+◌}
use mathlib.Core.Option.{some, some-injective, some-ne-none}
use mathlib.Core.List.{map-append}
use Rattle.std.proofs.lemmas.List.Elements.{All-cons, All-nil}
use lib.ListN.{get_elem?}

module _ {A : Type 0} where
  pub at_there : (l : List A) (i : ℕ) (a b : A) → get_elem? l i ≡ some a → get_elem? (set l i b) i ≡ some b
  at_there [] i a b e = absurd (some-ne-none a (sym e))
  at_there (x ∷ xs) zero a b e = refl
  at_there (x ∷ xs) (suc i) a b e = at_there xs i a b e

  pub at_only : (a : A) (i : ℕ) (b : A) → get_elem? (a ∷ []) i ≡ some b → a ≡ b
  at_only a zero b e = some-injective a b e
  at_only a (suc i) b e = absurd (some-ne-none b (sym e))

  pub All-one : (P : A → Type 0) (a : A) → P a → All P (a ∷ [])
  All-one P a is = All-cons P a [] is (All-nil P)

  pub All-from_map : {B : Type 0} (P : B → Type 0) (f : A → B) (l : List A) → All P (map f l) → All (λ x. P (f x)) l
  All-from_map P f [] h k d m = absurd (omega arith)
  All-from_map P f (x ∷ l) h zero d m = h 0 (f d) (omega arith)
  All-from_map P f (x ∷ l) h (suc k) d m = All-from_map P f l (λ j e n. h (suc j) e (omega arith)) k d (omega arith)

  -- the last element goes over to the mapped list
  pub map-last : {B : Type 0} (f : A → B) (whole : List B) (l front : List A) (x : A) (back : List B) → whole ≡ map f l ++ back → l ≡ front ++ x ∷ [] → whole ≡ map f front ++ (f x ∷ back)
  map-last f whole l front x back e is =
      e ∙ (ap (λ z. map f z ++ back) is ∙ (ap (λ z. z ++ back) (map-append f front (x ∷ [])) ∙ append_assoc (map f front) (f x ∷ []) back))

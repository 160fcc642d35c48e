-- Lists that are mapped.
use Rattle.std.proofs.Common.{◌≡◌, ℕ, ◌<◌, List, [], ◌∷◌, ◌++◌, get_or, length, map, sym, ap, ◌∙◌, arith}
use Rattle.std.proofs.lemmas.List.{get_or-map, length-map, map-append}

-- what is made of the items so far, and of one more
pub mapped-more : {A B C : Type 0} (f : B → C) (g : A → B) (xs : List A) (x : A) (y : C) (old new : List C) → y ≡ f (g x)
    → old ≡ map f (map g xs) → new ≡ old ++ y ∷ [] → new ≡ map f (map g (xs ++ x ∷ []))
mapped-more {A} {B} {C} f g xs x y old new made before added =
    added
    ∙ ap (λ (l : List C). l ++ y ∷ []) before
    ∙ ap (λ (z : C). map f (map g xs) ++ z ∷ []) made
    ∙ sym (map-append f (map g xs) (g x ∷ []))
    ∙ ap (map f) (sym (map-append g xs (x ∷ [])))

-- what is recorded of an item where it stands
pub told-at : {A B : Type 0} (f : B → ℕ) (g : A → B) (xs : List A) (x : A) (i place : ℕ) (told : List ℕ) → told ≡ map f (map g xs) → (i < length xs) × (x ≡ get_or xs i x)
    → place ≡ i → get_or told place 0 ≡ f (g x)
told-at f g xs x i place told is at same =
    ap (λ (n : ℕ). get_or told n 0) same
    ∙ ap (λ (l : List ℕ). get_or l i 0) is
    ∙ get_or-map f (map g xs) i (g x) 0 (omega (arith, at.0, length-map xs g))
    ∙ ap f (get_or-map g xs i x (g x) at.0 ∙ ap g (sym at.1))

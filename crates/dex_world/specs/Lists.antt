-- Three lists, place by place.
use Rattle.std.specs.Prelude.{List, [], ◌∷◌}

-- R holds of the elements of three lists, place by place
abbrev pub AllThree : {A B C : Type 0} → (A → B → C → Type 0) → List A → List B → List C → Type 0
AllThree R [] [] [] = Unit {0}
AllThree R (x ∷ xs) (y ∷ ys) (z ∷ zs) = R x y z × AllThree R xs ys zs
AllThree R _ _ _ = ⊥

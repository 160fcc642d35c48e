-- Sums over lists, by what each item weighs.
use Rattle.std.specs.Prelude.{ℕ, ◌+◌, Bool, List, [], ◌∷◌, if◌then◌else◌}

-- the sum of a weight over a list
abbrev pub total : {X : Type 0} → (X → ℕ) → List X → ℕ
total weight [] = 0
total weight (x ∷ xs) = weight x + total weight xs

-- what an item weighs where the test holds of it, else nothing
abbrev pub weighed_where : {X : Type 0} → (X → Bool) → (X → ℕ) → X → ℕ
weighed_where test weight x = if test x then weight x else 0

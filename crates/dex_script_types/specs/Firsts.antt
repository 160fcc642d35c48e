-- The first element of a list that passes a test.
use Rattle.std.specs.Prelude.{Bool, if◌then◌else◌, List, [], ◌∷◌, Option, Some, None}

-- what the first element that passes tells
abbrev pub first_of : {X Y : Type 0} → (X → Bool) → (X → Y) → List X → Option Y
first_of test told [] = None
first_of test told (x ∷ xs) = if test x then Some (told x) else first_of test told xs

-- the list with the first element that passes changed
abbrev pub with_first : {X : Type 0} → (X → Bool) → (X → X) → List X → List X
with_first test change [] = []
with_first test change (x ∷ xs) = if test x then change x ∷ xs else x ∷ with_first test change xs

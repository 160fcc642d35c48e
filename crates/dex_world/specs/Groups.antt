-- Lists in groups: neighbours of one number stand together.
use Rattle.std.specs.Prelude.{ℕ, ◌==◌, List, [], ◌∷◌, map, if◌then◌else◌}

-- some elements, of which there is a first
pub record Group (A : Type 0) : Type 0 where
  pub first : A
  pub others : List A

module _ {A : Type 0} where
  -- all of them
  abbrev pub members : Group A → List A
  members group = group.first ∷ group.others

  abbrev pub alone : A → Group A
  alone x = record { first = x; others = [] }

  -- an element before groups: with the first of them where that has its number, and else alone
  abbrev pub joined : (A → ℕ) → A → List (Group A) → List (Group A)
  joined key x [] = alone x ∷ []
  joined key x (group ∷ groups) =
      if key x == key group.first then record { first = x; others = members group } ∷ groups else alone x ∷ group ∷ groups

  -- a list by the numbers of its elements
  abbrev pub grouped : (A → ℕ) → List A → List (Group A)
  grouped key [] = []
  grouped key (x ∷ xs) = joined key x (grouped key xs)

-- what is made of the elements of a group
abbrev pub map_group : {A B : Type 0} → (A → B) → Group A → Group B
map_group f group = record { first = f group.first; others = map f group.others }

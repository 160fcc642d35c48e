-- Items of journals with numbers that order them over all journals.
use Rattle.std.specs.Prelude.{ℕ, ◌<◌, List, [], ◌∷◌, map}
use Rattle.std.specs.List.{AllPairs}

-- an item, and its stamp
pub record Stamped (A : Type 0) : Type 0 where
  pub item : A
  pub stamp : ℕ

-- each item with the stamp at its place
abbrev pub stamped : {A : Type 0} → List A → List ℕ → List (Stamped A)
stamped (item ∷ items) (stamp ∷ stamps) = record { item = item; stamp = stamp } ∷ stamped items stamps
stamped _ _ = []

-- the items without their stamps
abbrev pub items_of : {A : Type 0} → List (Stamped A) → List A
items_of {A} list = map (λ (made : Stamped A). made.item) list

-- the stamps rise, so that none stands twice
abbrev pub AreRising : {A : Type 0} → List (Stamped A) → Type 0
AreRising {A} list = AllPairs (λ (one other : Stamped A). one.stamp < other.stamp) list

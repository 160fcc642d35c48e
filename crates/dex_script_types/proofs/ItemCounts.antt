-- How many items rows are, counted from the front by the numbers beside them.
use Rattle.std.proofs.Common.{◌≡◌, ◌∙◌, ◌+◌, ℕ, Bool, true, false, cond, eqb, List, [], ◌∷◌, Option, Some, None, length, map, refl, ap, sym, arith}
use Rattle.dex_world.proofs.Common.{PlainRow, cond_both, length-map}
use Rattle.dex_world.specs.declared.places.RowPlaces.{RowPlaces}
use Rattle.dex_world.specs.Groups.{Group, alone, grouped, joined, map_group, members}
use Rattle.dex_world.specs.Items.{items_of}
use Rattle.dex_world.proofs.GroupLaws.{grouped-map}
use Rattle.dex_world.proofs.MappedLists.{zip-map}
use Rattle.dex_script_types.specs.Places.{AreBeside, IsBeside, items_at}

-- an element of this number goes with what stands before it
abbrev pub goes_with : Option ℕ → ℕ → Bool
goes_with None number = false
goes_with (Some last) number = eqb last number

-- how many items begin at places that stand after a row of this number
abbrev pub begun : Option ℕ → List RowPlaces → ℕ
begun last [] = 0
begun last (at ∷ places) = cond (goes_with last at.number) 0 1 + begun (Some at.number) places

module _ {A : Type 0} (key : A → ℕ) where
  -- one element more in front of a group, with its first or alone
  one-more : (y : A) (together : Bool) (group : Group A) (groups : List (Group A))
      → length (cond together (record { first = y; others = members group } ∷ groups) (alone y ∷ group ∷ groups)) ≡ cond together 0 1 + length (group ∷ groups)
  one-more y true group groups = omega (arith)
  one-more y false group groups = omega (arith)

  length-joined : (y x : A) (groups : List (Group A)) → length (joined key y (joined key x groups)) ≡ cond (eqb (key y) (key x)) 0 1 + length (joined key x groups)
  length-joined y x [] = one-more y (eqb (key y) (key x)) (alone x) []
  length-joined y x (group ∷ groups) =
      cond_both (eqb (key x) (key group.first)) (record { first = x; others = members group } ∷ groups) (alone x ∷ group ∷ groups)
      (λ (all : List (Group A)). length (joined key y all) ≡ cond (eqb (key y) (key x)) 0 1 + length all)
      (λ same. one-more y (eqb (key y) (key x)) (record { first = x; others = members group }) groups)
      (λ apart. one-more y (eqb (key y) (key x)) (alone x) (group ∷ groups))

-- the number beside a row
abbrev number_at : RowPlaces → ℕ
number_at at = at.number

begun-behind : (at : RowPlaces) (places : List RowPlaces) → 1 + begun (Some at.number) places ≡ length (grouped number_at (at ∷ places))
begun-behind at [] = refl
begun-behind at (next ∷ places) =
    let first = cond (eqb at.number next.number) 0 1 in
    let moved : 1 + (first + begun (Some next.number) places) ≡ first + (1 + begun (Some next.number) places) = omega (arith) in
    moved ∙ ap (λ (n : ℕ). first + n) (begun-behind next places) ∙ sym (length-joined number_at at next (grouped number_at places))

-- at the front just the items of all rows begin
pub begun-all : (places : List RowPlaces) → begun None places ≡ items_at places
begun-all [] = refl
begun-all (at ∷ places) = begun-behind at places

-- ---- by the numbers alone

by-numbers : {A : Type 0} (key : A → ℕ) (xs : List A) → length (grouped key xs) ≡ length (grouped (λ (n : ℕ). n) (map key xs))
by-numbers key xs = sym (ap length (grouped-map (λ (n : ℕ). n) key xs) ∙ length-map (grouped key xs) (map_group key))

-- so as many items are at the places as the rows are
pub items-beside : (rows : List PlainRow) (places : List RowPlaces) → AreBeside rows places → items_at places ≡ length (items_of rows)
items-beside rows places are =
    by-numbers number_at places
    ∙ ap (λ (all : List ℕ). length (grouped (λ (n : ℕ). n) all)) (zip-map IsBeside (λ (row : PlainRow). row.number) number_at (λ row at is. is.number) rows places are)
    ∙ sym (by-numbers (λ (row : PlainRow). row.number) rows)

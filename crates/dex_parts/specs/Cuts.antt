-- Rows cut into parts that follow each other.
use Rattle.std.specs.Prelude.{◌≡◌, ◌==◌, ◌<◌, ◌≤◌, ◌+◌, ◌⊎◌, ℕ, false, List, [], ◌∷◌, All, drop, length, map}
use Rattle.std.specs.Prelude.{slice_index, take}
use Rattle.dex_types.specs.Rows.{PlainRow}

-- numbers never fall, and no three are one
pub record AreInOrder (numbers : List ℕ) : Type 0 where
  pub rising : (one other : ℕ) → one < other → other < length numbers
      → slice_index numbers one ≤ slice_index numbers other
  pub two : (place : ℕ) → place + 2 < length numbers → slice_index numbers place < slice_index numbers (place + 2)

-- of numbers in their order none in front is one behind
abbrev pub ArePartedAt : ℕ → List ℕ → Type 0
ArePartedAt count numbers =
    All (λ (one : ℕ). All (λ (other : ℕ). (one == other) ≡ false) (drop count numbers)) (take count numbers)

-- the first two of these numbers are one, where a part has one row: they are the legs of a swap
abbrev pub AreLegsIn : ℕ → List ℕ → Type 0
AreLegsIn most numbers = (most ≡ 1) × (slice_index numbers 0 ≡ slice_index numbers 1)

-- so many of these numbers are the first part: no number stands on both sides; they are `most` at most, or the legs of
-- a swap; and more of them would be too many, or would part a swap
pub record IsPart (most count : ℕ) (numbers : List ℕ) : Type 0 where
  pub some : 0 < count
  pub within : count ≤ length numbers
  pub parted : ArePartedAt count numbers
  pub few : (count ≤ most) ⊎ ((count ≡ 2) × AreLegsIn most numbers)
  pub full : (more : ℕ) → count < more → more ≤ most → more ≤ length numbers → ArePartedAt more numbers → ⊥

-- these counts are those of the parts, one after the other, of all of these numbers
abbrev pub AreCutBy : ℕ → List ℕ → List ℕ → Type 0
AreCutBy most [] numbers = numbers ≡ []
AreCutBy most (count ∷ counts) numbers = IsPart most count numbers × AreCutBy most counts (drop count numbers)

-- the numbers of rows
abbrev pub numbers_of : List PlainRow → List ℕ
numbers_of rows = map (λ (row : PlainRow). row.number) rows

-- the rows of the parts
abbrev pub parts_by : List ℕ → List PlainRow → List (List PlainRow)
parts_by [] rows = []
parts_by (count ∷ counts) rows = take count rows ∷ parts_by counts (drop count rows)

-- How much of the bytes that a source had left was taken.
use Rattle.std.specs.Prelude.{◌≡◌, ◌<◌, ◌≤◌, ℕ, List, length, drop, Option, Some}

-- the first k of the bytes were taken, and the others are left
pub record Took (k : ℕ) (bytes : List ℕ) (left : Option (List ℕ)) : Type 0 where
  pub there : k ≤ length bytes
  pub rest : left ≡ Some (drop k bytes)

-- at most this many bytes were taken, from the front
abbrev pub TookUpTo : ℕ → List ℕ → Option (List ℕ) → Type 0
TookUpTo most bytes left = (k : ℕ) × (k ≤ most) × Took k bytes left

-- more than this many bytes were taken, from the front
abbrev pub TookMore : ℕ → List ℕ → Option (List ℕ) → Type 0
TookMore limit bytes left = (k : ℕ) × (limit < k) × Took k bytes left

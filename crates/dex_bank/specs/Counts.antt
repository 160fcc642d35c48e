-- Counts by place: how many rows name the market or the wallet at each place.
use Rattle.std.specs.Prelude.{◌≡◌, ℕ, ◌+◌, ◌<◌, ◌^◌, ◌==◌, Bool, List, count_by, length, slice_index_or, if◌then◌else◌}

-- one where it is so
abbrev pub one : Bool → ℕ
one holds = if holds then 1 else 0

-- how many of these are the place
abbrev pub times_told : ℕ → List ℕ → ℕ
times_told place told = count_by (λ (other : ℕ). place == other) told

-- no count is so high that so many more would not fit
abbrev pub HaveSpare : ℕ → List ℕ → Type 0
HaveSpare more counts = (place : ℕ) → place < length counts → slice_index_or counts place 0 + more < 2 ^ 64

-- at each place there are so many more
pub record AreCounted (more : ℕ → ℕ) (before after : List ℕ) : Type 0 where
  pub long : length after ≡ length before
  pub each : (place : ℕ) → place < length before
      → slice_index_or after place 0 ≡ slice_index_or before place 0 + more place

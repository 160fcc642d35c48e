-- Histories: lists of entries that only grow.
use Rattle.std.specs.Prelude.{◌≡◌, ℕ, ◌+◌, ◌==◌, List, ◌++◌, length, drop, filter}

module _ {E : Type 0} where
  -- what the later list has after the entries of the earlier one
  abbrev pub added : List E → List E → List E
  added before after = drop (length before) after

  -- the later list begins with the whole earlier one
  abbrev pub Extends : List E → List E → Type 0
  Extends before after = before ++ added before after ≡ after

  -- the entries of one lane, in their order
  abbrev pub of_lane : (E → ℕ) → ℕ → List E → List E
  of_lane lane number entries = filter (λ e. lane e == number) entries

  -- the later list is the earlier one and one entry of this lane
  abbrev pub AddsOne : (E → ℕ) → ℕ → List E → List E → Type 0
  AddsOne lane number before after =
      Extends before after
      × (length after ≡ length before + 1)
      × (of_lane lane number (added before after) ≡ added before after)

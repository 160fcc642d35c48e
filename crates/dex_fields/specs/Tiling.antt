-- The fields of a layout, with its padding, tile the account.
use Rattle.std.specs.Prelude.{ℕ, ◌+◌, ◌<◌, ◌≤◌, Bool, ◌&&◌, ◌==◌, List, [], ◌∷◌}
use Rattle.std.specs.List.{All, AllPairs, Any}
use Rattle.dex_fields.specs.declared.field.Field.{Field}
use Rattle.dex_fields.specs.Bytes.{end_of}

-- the byte at this place is in the field
abbrev pub HasPlace : ℕ → Field → Type 0
HasPlace place field = (field.at ≤ place) × (place < end_of field)

-- each field ends within the size, each ends before a later one begins, and every byte is in one of them
pub record Tile (fields : List Field) (size : ℕ) : Type 0 where
  pub within : All (λ field. end_of field ≤ size) fields
  pub apart : AllPairs (λ earlier later. end_of earlier ≤ later.at) fields
  pub covers : (place : ℕ) → place < size → Any (HasPlace place) fields

-- the test of a table: the first field begins at `start`, each other one where the field before it ends, and the last
-- ends at the size
abbrev pub tiles_from : ℕ → List Field → ℕ → Bool
tiles_from start [] size = start == size
tiles_from start (field ∷ fields) size = (field.at == start) && tiles_from (start + field.len) fields size

-- where a field stands: its offset and its length, in bytes
abbrev pub span_of : Field → ℕ × ℕ
span_of field = (field.at, field.len)

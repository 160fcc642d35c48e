-- The rows of a text of comma-separated values.
use Rattle.std.specs.Prelude.{ℕ, List, [], slice_index_or}
use Rattle.csv.specs.Reading.{default_config, records, strip_bom}

-- the rows of a text, each of its fields: the records that a reader with the usual settings reads, with no header row
-- and of any lengths, after a byte-order mark
unfoldable pub rows_of : List ℕ → List (List (List ℕ))
rows_of text = records default_config (strip_bom text)

-- the fields of a row
abbrev pub Fields : Type 0
Fields = List (List ℕ)

-- the field at a place, from 0; nothing after the last
abbrev pub field_at : Fields → ℕ → List ℕ
field_at row place = slice_index_or row place []

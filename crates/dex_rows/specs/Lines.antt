-- Rows of a text without quotes, as they stand in it.
use Rattle.std.specs.Prelude.{ℕ, ◌+◌, ◌≡◌, ◌<◌, ◌≤◌, ◌==◌, ◌||◌, Bool, true, false, if◌then◌else◌, List, [], ◌∷◌, ◌++◌, All, Some, get_or, length, map, slice_index, take}
use Rattle.std.specs.Borrow.{Bor}
use Rattle.std.specs.List.{slice_split}
use Rattle.csv.specs.declared.parser.State.TheVariants as st
use Rattle.dex_rows.specs.RowReader.{rows_from}
use Rattle.dex_rows.specs.declared.lines.Line.{Line}

-- no byte is a quote
abbrev pub HasNoQuote : List ℕ → Type 0
HasNoQuote text = All (λ byte. (byte == 34) ≡ false) text

-- a byte ends a row: a carriage return or a line feed
abbrev pub ends_row : ℕ → Bool
ends_row byte = (byte == 13) || (byte == 10)

-- a text that begins with a line end, or is over
abbrev pub IsEnd : List ℕ → Type 0
IsEnd [] = Unit {0}
IsEnd (byte ∷ rest) = ends_row byte ≡ true

-- what stands after the line ends at the front of a text
unfoldable pub behind_ends : List ℕ → List ℕ
behind_ends [] = []
behind_ends (byte ∷ rest) = if ends_row byte then behind_ends rest else byte ∷ rest

-- the rows of a text that is read from its start
abbrev pub rows_in : List ℕ → List (List (List ℕ))
rows_in text = rows_from st.StartRecord (Some text)

-- the fields of a row: what stands before, between and after its commas
abbrev pub cells_of : List ℕ → List (List ℕ)
cells_of line = slice_split (λ byte. byte == 44) line

-- borrowed texts, as bytes
abbrev pub texts : List (Bor (List ℕ)) → List (List ℕ)
texts fields = map (λ (field : Bor (List ℕ)). field.now) fields

-- a row's first twelve fields, and how many there are
pub record AreCut (bytes : List ℕ) (n : ℕ) (fields : List (Bor (List ℕ))) : Type 0 where
  pub count : n ≡ length (cells_of bytes)
  pub kept : texts (take n fields) ≡ take 12 (cells_of bytes)

-- a row with its first twelve fields, and how many there are
abbrev pub IsCut : Line → Type 0
IsCut line = AreCut line.bytes.now line.count line.fields

-- this many bytes at the front of a text are a row, up to a line end or the text's
pub record IsFront (text : List ℕ) (n : ℕ) : Type 0 where
  pub fits : n ≤ length text
  pub whole : All (λ byte. ends_row byte ≡ false) (take n text)
  pub ended : n < length text → ends_row (slice_index text n) ≡ true

-- no byte from one place of a text up to another is a comma or ends a row
pub record IsPassed (text : List ℕ) (from to : ℕ) : Type 0 where
  pub order : from ≤ to
  pub within : to ≤ length text
  pub comma : (place : ℕ) → from ≤ place → place < to → (get_or text place 0 == 44) ≡ false
  pub ends : (place : ℕ) → from ≤ place → place < to → ends_row (get_or text place 0) ≡ false

-- a field is kept at this place, if it is one of the first twelve
pub record KeepsField (fields : List (Bor (List ℕ))) (place : ℕ) (field : List ℕ) (after : List (Bor (List ℕ))) : Type 0 where
  pub first : place < 12 → texts (take (place + 1) after) ≡ texts (take place fields) ++ field ∷ []
  pub behind : 12 ≤ place → after ≡ fields

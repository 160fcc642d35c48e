-- Fields without control characters and bytes outside ASCII.
use Rattle.std.specs.Prelude.{ℕ, ◌≤◌, Bool, List, All}
use Rattle.std.specs.Int.{is_in_range}
use Rattle.std.specs.List.{list_all}

-- the bytes from 32, the space, to 126, `~`
abbrev pub IsPrintableByte : ℕ → Type 0
IsPrintableByte byte = (32 ≤ byte) × (byte ≤ 126)

-- a field of such bytes alone, as a fact
abbrev pub IsPrintable : List ℕ → Type 0
IsPrintable field = All IsPrintableByte field

-- a byte is printable, as a test
abbrev pub is_printable_byte : ℕ → Bool
is_printable_byte byte = is_in_range 32 126 byte

-- a field has printable bytes alone, as a test
unfoldable pub is_printable : List ℕ → Bool
is_printable field = list_all is_printable_byte field

-- a row of such fields
unfoldable pub row_is_printable : List (List ℕ) → Bool
row_is_printable row = list_all is_printable row

-- What stands in a field of some bytes, and what a write into a field leaves. A field is any place and any length here.
use Rattle.std.specs.Prelude.{◌≡◌, ℕ, zero, suc, ◌+◌, ◌*◌, ◌/◌, ◌%◌, ◌<◌, ◌≤◌, ◌⊎◌, List, [], ◌∷◌, length, take, drop, slice_index, slice_set}
use Rattle.dex_fields.specs.declared.field.Field.{Field}

-- the place just after the field
abbrev pub end_of : Field → ℕ
end_of field = field.at + field.len

-- the field lies in the bytes
abbrev pub IsWithin : Field → List ℕ → Type 0
IsWithin field bytes = end_of field ≤ length bytes

-- no byte is in both fields
abbrev pub AreApart : Field → Field → Type 0
AreApart a b = (end_of a ≤ b.at) ⊎ (end_of b ≤ a.at)

-- every byte outside of the field is as it was
abbrev pub ChangesOnly : Field → List ℕ → List ℕ → Type 0
ChangesOnly field old new = (place : ℕ) → (place < field.at) ⊎ (end_of field ≤ place) → slice_index new place ≡ slice_index old place

-- the field, `base` bytes further on: a field of a record that stands at `base`
abbrev pub moved_by : ℕ → Field → Field
moved_by base field = record { at = base + field.at; len = field.len }

-- item number `index` of a field that holds items of `width` bytes one after another
abbrev pub item_of : Field → ℕ → ℕ → Field
item_of field width index = record { at = field.at + index * width; len = width }

-- each item is a byte
abbrev pub AreBytes : List ℕ → Type 0
AreBytes bytes = (place : ℕ) → slice_index bytes place < 256

-- the bytes that stand in the field
unfoldable pub bytes_in : List ℕ → Field → List ℕ
bytes_in bytes field = take field.len (drop field.at bytes)

-- the number that bytes spell, the lowest byte first
unfoldable pub number_of_bytes : List ℕ → ℕ
number_of_bytes [] = 0
number_of_bytes (b ∷ bs) = b + 256 * number_of_bytes bs

-- the `count` lowest bytes of a number, the lowest first
unfoldable pub bytes_of_number : ℕ → ℕ → List ℕ
bytes_of_number zero x = []
bytes_of_number (suc count) x = x % 256 ∷ bytes_of_number count (x / 256)

-- the number that stands in the field
unfoldable pub number_in : List ℕ → Field → ℕ
number_in bytes field = number_of_bytes (bytes_in bytes field)

-- the bytes with the bytes of `piece` set one after another from a place on
unfoldable pub set_from : List ℕ → ℕ → List ℕ → List ℕ
set_from bytes place [] = bytes
set_from bytes place (b ∷ piece) = set_from (slice_set bytes place b) (suc place) piece

-- the bytes with `piece` written into the field; a piece that is longer than the field is cut
unfoldable pub with_bytes : List ℕ → Field → List ℕ → List ℕ
with_bytes bytes field piece = set_from bytes field.at (take field.len piece)

-- the bytes with a number written into the field
unfoldable pub with_number : List ℕ → Field → ℕ → List ℕ
with_number bytes field x = with_bytes bytes field (bytes_of_number field.len x)

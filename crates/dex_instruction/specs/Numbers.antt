-- Numbers in instruction data, the lowest byte first.
use Rattle.std.specs.Prelude.{ℕ, zero, suc, ◌+◌, ◌<◌, List, [], ◌∷◌, ◌++◌, drop, slice_index}
use Rattle.byteorder.specs.Endian.{little_bytes, little_number}

-- each item is a byte
abbrev pub AreBytes : List ℕ → Type 0
AreBytes bytes = (place : ℕ) → slice_index bytes place < 256

-- a number in `width` bytes
unfoldable pub number : ℕ → ℕ → List ℕ
number width x = little_bytes width x

-- the number in the `width` bytes from a place on
unfoldable pub number_at : ℕ → ℕ → List ℕ → ℕ
number_at width place bytes = little_number width (drop place bytes)

-- `count` numbers of eight bytes each, one after the other, from a place on
unfoldable pub numbers_at : ℕ → ℕ → List ℕ → List ℕ
numbers_at zero place bytes = []
numbers_at (suc count) place bytes = number_at 8 place bytes ∷ numbers_at count (place + 8) bytes

-- a field is a width in bytes, and a number
abbrev pub Field : Type 0
Field = ℕ × ℕ

-- the fields' bytes, one after the other
abbrev pub spelled : List Field → List ℕ
spelled [] = []
spelled (field ∷ fields) = number field.0 field.1 ++ spelled fields

-- how many bytes the fields have
abbrev pub widths : List Field → ℕ
widths [] = 0
widths (field ∷ fields) = field.0 + widths fields

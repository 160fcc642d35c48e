-- Words that write numbers.
use Rattle.std.specs.Prelude.{ℕ, Bool, not, ◌&&◌, ◌||◌, ◌==◌, nat_le, nat_lt, if◌then◌else◌, length, slice_index, List, Option, Some, None}
use Rattle.std.specs.Char.{is_ascii_digit}
use Rattle.std.specs.List.{list_all}
use Rattle.std.specs.Str.Parse.{digits_value}

-- decimal digits, one at least, with no zero in front of others
unfoldable pub is_numeral : List ℕ → Bool
is_numeral word = nat_le 1 (length word) && list_all is_ascii_digit word && ((length word == 1) || not (slice_index word 0 == 48))

-- one byte at least, with no zero in front of others
unfoldable pub is_bare : List ℕ → Bool
is_bare word = nat_le 1 (length word) && ((length word == 1) || not (slice_index word 0 == 48))

-- the number below a limit that a word writes in decimal, with no sign and no zeros in front
unfoldable pub number_of : ℕ → List ℕ → Option ℕ
number_of limit word = if is_numeral word && nat_lt (digits_value 10 word) limit then Some (digits_value 10 word) else None

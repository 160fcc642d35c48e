-- A set of slots as the bits of a number.
use Rattle.std.specs.Prelude.{ℕ, ◌^◌, Bool, ◌==◌, bit_and, bit_or}
use Rattle.std.specs.Int.{bit_at, bit_not, w128}

-- the bit is set
abbrev pub is_set : ℕ → ℕ → Bool
is_set bits place = bit_at bits place == 1

-- the bits with this one set
unfoldable pub with_bit : ℕ → ℕ → ℕ
with_bit bits place = bit_or bits (2 ^ place)

-- the bits with this one clear
unfoldable pub without_bit : ℕ → ℕ → ℕ
without_bit bits place = bit_and bits (bit_not w128 (2 ^ place))

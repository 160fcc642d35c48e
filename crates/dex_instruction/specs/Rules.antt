-- The rules that instruction data can break, in the order in which they are tried.
use Rattle.std.specs.Prelude.{ℕ, ◌-◌, ◌%◌, Bool, false, ◌&&◌, ◌||◌, ◌==◌, not, nat_lt, nat_le, if◌then◌else◌, Option, Some, None, List, length}
use Rattle.dex_types.specs.declared.instructions.BadData.{BadData}
use Rattle.dex_types.specs.declared.instructions.BadData.TheVariants.{Short, Version, UnknownTag, RetiredTag, Length, ZeroField, BadEnum}
use Rattle.dex_instruction.specs.Numbers.{number_at}

-- the tag, which stands after the version
abbrev pub tag_in : List ℕ → ℕ
tag_in bytes = number_at 4 1 bytes

-- the data has no room for a version and a tag
abbrev pub is_short : List ℕ → Bool
is_short bytes = nat_lt (length bytes) 5

-- the version is another than 0
abbrev pub has_other_version : List ℕ → Bool
has_other_version bytes = not (number_at 1 0 bytes == 0)

-- no instruction has or had the tag
abbrev pub is_unknown : ℕ → Bool
is_unknown tag = nat_lt 18 tag

-- an instruction of an earlier version had the tag
abbrev pub is_retired : ℕ → Bool
is_retired tag = (tag == 1) || (tag == 4) || (tag == 6) || (tag == 9) || (tag == 17)

-- the body of the tag's instruction can have this many bytes
abbrev pub is_body_length : ℕ → ℕ → Bool
is_body_length tag size =
    if tag == 0 then size == 34
    else (if (tag == 2) || (tag == 3) || (tag == 16) then size == 2
    else (if tag == 10 then (size == 46) || (size == 54)
    else (if tag == 11 then size == 20
    else (if tag == 12 then size == 8
    else (if tag == 13 then size == 46
    else (if tag == 18 then (size % 8 == 0) && nat_le 8 size && nat_le size 64
    else size == 0))))))

-- the body has another length than its instruction's
abbrev pub has_other_length : ℕ → List ℕ → Bool
has_other_length tag bytes = not (is_body_length tag (length bytes - 5))

-- the eight bytes from a place on are 0
abbrev pub is_zero_at : ℕ → List ℕ → Bool
is_zero_at place bytes = number_at 8 place bytes == 0

-- one of the fields that must not be 0 is 0: coin lot, pc lot and dust of a market; price, coin lots and native pc of
-- an order or a take
abbrev pub has_zero_field : ℕ → List ℕ → Bool
has_zero_field tag bytes =
    if tag == 0 then is_zero_at 5 bytes || is_zero_at 13 bytes || is_zero_at 31 bytes
    else (if (tag == 10) || (tag == 13) then is_zero_at 9 bytes || is_zero_at 17 bytes || is_zero_at 25 bytes
    else false)

-- the four bytes from a place on are above a number
abbrev pub is_above_at : ℕ → ℕ → List ℕ → Bool
is_above_at top place bytes = nat_lt top (number_at 4 place bytes)

-- a side, a self-trade rule or an order type is none
abbrev pub has_bad_enum : ℕ → List ℕ → Bool
has_bad_enum tag bytes =
    if tag == 10 then is_above_at 1 5 bytes || is_above_at 2 33 bytes || is_above_at 2 37 bytes
    else (if (tag == 11) || (tag == 13) then is_above_at 1 5 bytes
    else false)

-- the first broken rule, if one is broken
unfoldable pub broken : List ℕ → Option BadData
broken bytes =
    if is_short bytes then Some Short
    else (if has_other_version bytes then Some Version
    else (if is_unknown (tag_in bytes) then Some UnknownTag
    else (if is_retired (tag_in bytes) then Some RetiredTag
    else (if has_other_length (tag_in bytes) bytes then Some Length
    else (if has_zero_field (tag_in bytes) bytes then Some ZeroField
    else (if has_bad_enum (tag_in bytes) bytes then Some BadEnum
    else None))))))

-- The fields of a row, and the words of a field.
use Rattle.std.specs.Prelude.{ℕ, ℤ, ◌^◌, ◌==◌, nat_lt, if◌then◌else◌, List, map, bytes_eq, codes, Option, Some, None}
use Rattle.std.specs.Borrow.{Bor}
use Rattle.std.specs.Int.{w64, cast_signed}
use Rattle.std.specs.List.{slice_split}
use Rattle.dex_types.specs.declared.terms.OrderType.{OrderType}
use Rattle.dex_types.specs.declared.terms.OrderType.TheVariants.{Limit, Ioc, PostOnly}
use Rattle.dex_types.specs.declared.terms.SelfTrade.{SelfTrade}
use Rattle.dex_types.specs.declared.terms.SelfTrade.TheVariants.{Decrement, CancelProvide, Abort}
use Rattle.dex_types.specs.declared.terms.Side.{Side}
use Rattle.dex_types.specs.declared.terms.Side.TheVariants.{Bid, Ask}
use Rattle.dex_rows.specs.Numbers.{number_of}
pub use Rattle.dex_rows.specs.Records.{Fields, field_at}

-- the words of a field: what stands before, between and after its spaces
abbrev pub words_of : List ℕ → Fields
words_of field = slice_split (λ byte. byte == 32) field

-- the words that are lent
abbrev pub texts : List (Bor (List ℕ)) → Fields
texts words = map (λ word. word.now) words

-- `bid` or `ask`
abbrev pub side_of : List ℕ → Option Side
side_of word = if bytes_eq word (codes "bid") then Some Bid else (if bytes_eq word (codes "ask") then Some Ask else None)

-- `decrement`, `cancel` or `abort`
abbrev pub self_trade_of : List ℕ → Option SelfTrade
self_trade_of word =
    if bytes_eq word (codes "decrement") then Some Decrement
    else (if bytes_eq word (codes "cancel") then Some CancelProvide else (if bytes_eq word (codes "abort") then Some Abort else None))

-- `limit`, `ioc` or `post`
abbrev pub order_type_of : List ℕ → Option OrderType
order_type_of word =
    if bytes_eq word (codes "limit") then Some Limit
    else (if bytes_eq word (codes "ioc") then Some Ioc else (if bytes_eq word (codes "post") then Some PostOnly else None))

-- the time that a number below 2^63 is
abbrev pub time_of : ℕ → Option ℤ
time_of number = if nat_lt number (2 ^ 63) then Some (cast_signed w64 number) else None

-- the time that a number is, if there is one and it is below 2^63
abbrev pub time_of_number : Option ℕ → Option ℤ
time_of_number (Some number) = time_of number
time_of_number None = None

-- the time that a word writes
unfoldable pub time_word : List ℕ → Option ℤ
time_word word = time_of_number (number_of (2 ^ 64) word)

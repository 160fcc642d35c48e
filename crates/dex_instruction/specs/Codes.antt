-- Sides, self-trade rules, order types and latest times as numbers. A number above the last code is read as that code:
-- no such data decodes.
use Rattle.std.specs.Prelude.{ℕ, ℤ, ◌==◌, if◌then◌else◌}
use Rattle.std.specs.Int.{w64, cast_signed, cast_unsigned}
use Rattle.dex_types.specs.declared.terms.OrderType.{OrderType}
use Rattle.dex_types.specs.declared.terms.OrderType.TheVariants.{Limit, Ioc, PostOnly}
use Rattle.dex_types.specs.declared.terms.SelfTrade.{SelfTrade}
use Rattle.dex_types.specs.declared.terms.SelfTrade.TheVariants.{Decrement, CancelProvide, Abort}
use Rattle.dex_types.specs.declared.terms.Side.{Side}
use Rattle.dex_types.specs.declared.terms.Side.TheVariants.{Bid, Ask}

-- a side's number
abbrev pub side_code : Side → ℕ
side_code Bid = 0
side_code Ask = 1

-- the side of a number
abbrev pub side_of : ℕ → Side
side_of code = if code == 0 then Bid else Ask

-- a self-trade rule's number
abbrev pub self_trade_code : SelfTrade → ℕ
self_trade_code Decrement = 0
self_trade_code CancelProvide = 1
self_trade_code Abort = 2

-- the self-trade rule of a number
abbrev pub self_trade_of : ℕ → SelfTrade
self_trade_of code = if code == 0 then Decrement else (if code == 1 then CancelProvide else Abort)

-- an order type's number
abbrev pub order_type_code : OrderType → ℕ
order_type_code Limit = 0
order_type_code Ioc = 1
order_type_code PostOnly = 2

-- the order type of a number
abbrev pub order_type_of : ℕ → OrderType
order_type_of code = if code == 0 then Limit else (if code == 1 then Ioc else PostOnly)

-- a signed number of 64 bits as two's complement
abbrev pub time_code : ℤ → ℕ
time_code time = cast_unsigned w64 time

-- the signed number of its two's complement
abbrev pub time_of : ℕ → ℤ
time_of code = cast_signed w64 code

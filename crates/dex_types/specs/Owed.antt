-- What pending events owe and hold back, by token, and what resting orders lock.
use Rattle.std.specs.Prelude.{ℕ, ◌+◌, Bool}
use Rattle.dex_types.specs.declared.addresses.Address.{Address}
use Rattle.dex_types.specs.declared.orders.Order.{Order}
use Rattle.dex_types.specs.declared.terms.Lots.{Lots}
use Rattle.dex_types.specs.declared.terms.Side.{Side}
use Rattle.dex_types.specs.declared.terms.Side.TheVariants.{Bid, Ask}
use Rattle.dex_types.specs.Addresses.{is_same}
use Rattle.dex_types.specs.Fees.{referrer_part}
use Rattle.dex_types.specs.QueuedEvent.{EventKind, MakerFill, TakerFill, ReleasingOut, QueuedEvent}
use Rattle.dex_types.specs.Side.{Token, Coin, Pc, price_of, lock}

-- the native amount that a resting order of the side locks
abbrev pub order_lock : Side → Lots → Order → ℕ
order_lock side sizes order = lock side sizes (price_of order.id) order.lots

-- the native amount of a token that a pending event of this kind owes: what a maker receives and what an out releases,
-- and the rebate of a bid's fill
abbrev pub owed_as : Token → EventKind → QueuedEvent → ℕ
owed_as Coin (MakerFill Bid) event = event.released
owed_as Coin (ReleasingOut Ask) event = event.released
owed_as Pc (MakerFill Ask) event = event.released
owed_as Pc (MakerFill Bid) event = event.fee_or_rebate
owed_as Pc (ReleasingOut Bid) event = event.released
owed_as token kind event = 0

-- the native amount of a token that this pending event owes its owner
abbrev pub owed : Token → QueuedEvent → ℕ
owed token event = owed_as token event.kind event

-- the native amount of a token that a maker's fill of this kind is still to take off its owner's total
abbrev pub leaving_as : Token → EventKind → QueuedEvent → ℕ
leaving_as Coin (MakerFill Ask) event = event.paid
leaving_as Pc (MakerFill Bid) event = event.paid
leaving_as token kind event = 0

-- the native amount of a token that this pending event is still to take off its owner's total
abbrev pub leaving : Token → QueuedEvent → ℕ
leaving token event = leaving_as token event.kind event

-- the native amount of a token that is in its owner's total and neither free nor locked while an event of this kind is
-- pending: what a maker pays, a bid's rebate with it, and what an out unlocks
abbrev pub kept_as : Token → EventKind → QueuedEvent → ℕ
kept_as Coin (MakerFill Ask) event = event.paid
kept_as Coin (ReleasingOut Ask) event = event.released
kept_as Pc (MakerFill Bid) event = event.paid + event.fee_or_rebate
kept_as Pc (ReleasingOut Bid) event = event.released
kept_as token kind event = 0

-- the native amount of a token that this pending event keeps in its owner's total, neither free nor locked
abbrev pub kept : Token → QueuedEvent → ℕ
kept token event = kept_as token event.kind event

-- the referrer's part of the fee of a pending taker's fill, in native quote
abbrev pub referred_as : EventKind → QueuedEvent → ℕ
referred_as (TakerFill side) event = referrer_part event.fee_or_rebate
referred_as kind event = 0

-- the referrer's part of the fee of this pending event, in native quote; 0 unless it is a taker's fill
abbrev pub referred : QueuedEvent → ℕ
referred event = referred_as event.kind event

-- the order is this owner's
abbrev pub is_order_of : Address → Order → Bool
is_order_of owner order = is_same owner order.owner

-- the event is this owner's
abbrev pub is_event_of : Address → QueuedEvent → Bool
is_event_of owner event = is_same owner event.owner

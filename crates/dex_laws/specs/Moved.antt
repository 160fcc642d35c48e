-- What fills move, and how many orders were met.
use Rattle.std.specs.Prelude.{ℕ, ◌+◌, ◌-◌, ◌*◌, Option, if◌then◌else◌}
use Rattle.dex_types.specs.declared.addresses.Address.{Address}
use Rattle.dex_types.specs.declared.orders.Order.{Order}
use Rattle.dex_types.specs.declared.terms.Lots.{Lots}
use Rattle.dex_types.specs.declared.terms.Side.{Side}
use Rattle.dex_types.specs.declared.terms.Side.TheVariants.{Bid, Ask}
use Rattle.dex_types.specs.Meeting.{Meeting, is_own}
use Rattle.dex_types.specs.QueuedEvent.{QueuedEvent, EventKind, MakerFill, ReleasingOut}

-- the lots of an order, if it is the taker's own
abbrev pub own_lots : Option Address → Order → ℕ
own_lots owner order = if is_own owner order then order.lots else 0

-- the lots of an order, if it is another trader's
abbrev pub other_lots : Option Address → Order → ℕ
other_lots owner order = if is_own owner order then 0 else order.lots

-- the native base of a maker's fill
abbrev pub filled_coin_as : EventKind → QueuedEvent → ℕ
filled_coin_as (MakerFill Bid) event = event.released
filled_coin_as (MakerFill Ask) event = event.paid
filled_coin_as kind event = 0

-- the native base of this event, 0 unless it is a maker's fill
abbrev pub filled_coin : QueuedEvent → ℕ
filled_coin event = filled_coin_as event.kind event

-- the native quote of a maker's fill: a bid paid it less the rebate, an ask got it and the rebate
abbrev pub filled_pc_as : EventKind → QueuedEvent → ℕ
filled_pc_as (MakerFill Bid) event = event.paid + event.fee_or_rebate
filled_pc_as (MakerFill Ask) event = event.released - event.fee_or_rebate
filled_pc_as kind event = 0

-- the native quote of this event, 0 unless it is a maker's fill
abbrev pub filled_pc : QueuedEvent → ℕ
filled_pc event = filled_pc_as event.kind event

-- the rebate of a maker's fill
abbrev pub filled_rebate_as : EventKind → QueuedEvent → ℕ
filled_rebate_as (MakerFill side) event = event.fee_or_rebate
filled_rebate_as kind event = 0

-- the rebate of this event, 0 unless it is a maker's fill
abbrev pub filled_rebate : QueuedEvent → ℕ
filled_rebate event = filled_rebate_as event.kind event

-- one for each order that was met: its fill, or its release
abbrev pub meets_one_as : EventKind → ℕ
meets_one_as (MakerFill side) = 1
meets_one_as (ReleasingOut side) = 1
meets_one_as kind = 0

-- one where this event is the fill or the release of an order that was met
abbrev pub meets_one : QueuedEvent → ℕ
meets_one event = meets_one_as event.kind

-- the native amount that the fills of a taker of the side take off the makers' locks: base for a bid, quote for an ask
abbrev pub moved : Side → Lots → Meeting → ℕ
moved Bid sizes met = met.lots * sizes.coin
moved Ask sizes met = met.pc

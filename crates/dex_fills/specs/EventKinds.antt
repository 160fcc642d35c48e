-- The events of one order that is met, by their kinds.
use Rattle.std.specs.Prelude.{ℕ, ◌==◌, List, [], ◌∷◌, if◌then◌else◌}
use Rattle.dex_fills.specs.declared.event_kinds.EventAmounts.{EventAmounts}
use Rattle.dex_types.specs.declared.orders.Order.{Order}
use Rattle.dex_types.specs.Meeting.{event_of, plain_out}
use Rattle.dex_fills.specs.declared.event_kinds.Kind.{Kind}
use Rattle.dex_fills.specs.declared.event_kinds.Kind.TheVariants as code
use Rattle.dex_types.specs.declared.terms.Side.{Side}
use Rattle.dex_types.specs.QueuedEvent.{EventKind, MakerFill, TakerFill, PlainOut, ReleasingOut, QueuedEvent}

-- the kind of an event of the side
abbrev pub kind_on : Kind → Side → EventKind
kind_on code.MakerFill side = MakerFill side
kind_on code.TakerFill side = TakerFill side
kind_on code.PlainOut side = PlainOut side
kind_on code.ReleasingOut side = ReleasingOut side

-- an event of an order of the side, with these amounts
abbrev pub event_with : Kind → Side → Order → EventAmounts → QueuedEvent
event_with kind side order amounts = event_of (kind_on kind side) order amounts.released amounts.paid amounts.fee_or_rebate

-- the fill of a resting order that loses these lots, with these amounts, and, where that empties it, its out
abbrev pub filled_events : Side → Order → ℕ → EventAmounts → List QueuedEvent
filled_events side order lots amounts =
    event_of (MakerFill side) order amounts.released amounts.paid amounts.fee_or_rebate
    ∷ (if lots == order.lots then plain_out side order ∷ [] else [])

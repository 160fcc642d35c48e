-- Orders and fills without their slots, which fills do not depend on.
use Rattle.std.specs.Prelude.{List, [], ◌∷◌, map}
use Rattle.dex_types.specs.declared.orders.Order.{Order}
use Rattle.dex_types.specs.QueuedEvent.{EventKind, MakerFill, QueuedEvent}

-- an order with slot 0 in the place of its own
abbrev pub without_slot : Order → Order
without_slot order = record order { slot = 0 }

-- a side with slot 0 in all its orders
abbrev pub without_slots : List Order → List Order
without_slots orders = map without_slot orders

-- an event of this kind with slot 0, if it is a maker's fill, before other fills
abbrev pub with_fill : EventKind → QueuedEvent → List QueuedEvent → List QueuedEvent
with_fill (MakerFill side) event fills = record event { slot = 0 } ∷ fills
with_fill kind event fills = fills

-- the makers' fills among these events, with slot 0
abbrev pub maker_fills : List QueuedEvent → List QueuedEvent
maker_fills [] = []
maker_fills (event ∷ events) = with_fill event.kind event (maker_fills events)

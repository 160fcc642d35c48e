-- What slots hold, against orders and events.
use Rattle.std.specs.Prelude.{ℕ, Option, Some, None, Bool, false, ◌&&◌, ◌==◌}
use Rattle.dex_types.specs.declared.addresses.Address.{Address}
use Rattle.dex_types.specs.Owed.{is_event_of}
use Rattle.dex_types.specs.QueuedEvent.{QueuedEvent}
use Rattle.dex_types.specs.Soundness.{event_holding, held_at, is_one_order}
use Rattle.dex_types.specs.Trader.{Holding, Traders}

-- the slot holds an order of this id, side and client id
abbrev pub is_held : Option Holding → Holding → Bool
is_held None wanted = false
is_held (Some held) wanted = is_one_order held wanted && (held.client == wanted.client)

-- the id in a slot, or 0 where it is free
abbrev pub id_held : Option Holding → ℕ
id_held None = 0
id_held (Some held) = held.id

-- the event's slot holds its order
abbrev pub is_event_held : Traders → QueuedEvent → Bool
is_event_held traders event = is_held (held_at event.owner event.slot traders) (event_holding event)

-- the event is this owner's, and its slot holds its order
abbrev pub is_own_held : Traders → Address → QueuedEvent → Bool
is_own_held traders owner event = is_event_of owner event && is_event_held traders event

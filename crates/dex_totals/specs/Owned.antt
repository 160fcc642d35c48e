-- Orders and events by their owners.
use Rattle.std.specs.Prelude.{◌≡◌, List, [], map}
use Rattle.std.specs.HashMap as hash
use Rattle.std.specs.List.{filter}
use Rattle.std.specs.Option.{option_map_or}
use Rattle.dex_types.specs.declared.addresses.Address.{Address}
use Rattle.dex_types.specs.declared.orders.Event.{Event}
use Rattle.dex_types.specs.declared.orders.Order.{Order}
use Rattle.dex_types.specs.Addresses.{is_same}
use Rattle.dex_types.specs.Owed.{is_event_of, is_order_of}
use Rattle.dex_types.specs.QueuedEvent.{QueuedEvent, decoded_event}
use Rattle.dex_totals.specs.declared.by_owner.ByOwner.{ByOwner}

-- what an owner has
abbrev pub own_of : {X : Type 0} → ByOwner X → Address → List X
own_of own owner = option_map_or (λ list. list.items) (hash.get is_same own.lists owner) []

-- each owner has just its own of these orders
abbrev pub AreOwnOrders : ByOwner Order → List Order → Type 0
AreOwnOrders own orders = (owner : Address) → own_of own owner ≡ filter (is_order_of owner) orders

-- each owner has just its own of these events
abbrev pub AreOwnEvents : ByOwner Event → List QueuedEvent → Type 0
AreOwnEvents own events = (owner : Address) → map decoded_event (own_of own owner) ≡ filter (is_event_of owner) events

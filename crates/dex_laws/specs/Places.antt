-- What is in a slot of a trader: the orders that rest for it, and the events that free it.
use Rattle.std.specs.Prelude.{ℕ, ◌==◌, List, Bool, ◌&&◌, if◌then◌else◌}
use Rattle.dex_types.specs.declared.addresses.Address.{Address}
use Rattle.dex_types.specs.declared.orders.Order.{Order}
use Rattle.dex_types.specs.Addresses.{is_same}
use Rattle.dex_types.specs.QueuedEvent.{QueuedEvent}
use Rattle.dex_types.specs.Soundness.{is_final}
use Rattle.dex_types.specs.Totals.{weighed_where}
use Rattle.dex_types.specs.Totals.{total}

-- one for an event after which its order's slot is free
abbrev pub frees : QueuedEvent → ℕ
frees event = if is_final event then 1 else 0

-- the order rests for this slot of this trader
abbrev pub is_order_at : Address → ℕ → Order → Bool
is_order_at owner slot order = is_same owner order.owner && (slot == order.slot)

-- the event is of this slot of this trader
abbrev pub is_event_at : Address → ℕ → QueuedEvent → Bool
is_event_at owner slot event = is_same owner event.owner && (slot == event.slot)

-- how many of the orders rest for this slot of this trader
abbrev pub rest_at : Address → ℕ → List Order → ℕ
rest_at owner slot orders = total (weighed_where (is_order_at owner slot) (λ order. 1)) orders

-- how many of the events free this slot of this trader
abbrev pub freed_at : Address → ℕ → List QueuedEvent → ℕ
freed_at owner slot events = total (weighed_where (is_event_at owner slot) frees) events

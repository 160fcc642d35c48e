-- When the amounts of events fit a bound, and of which orders events are.
use Rattle.std.specs.Prelude.{ℕ, ◌≡◌, ◌≤◌, List, Contains}
use Rattle.dex_types.specs.declared.orders.Order.{Order}
use Rattle.dex_types.specs.QueuedEvent.{QueuedEvent}

-- no amount of the event is above the bound
pub record EventFits (bound : ℕ) (event : QueuedEvent) : Type 0 where
  pub released : event.released ≤ bound
  pub paid : event.paid ≤ bound
  pub fee_or_rebate : event.fee_or_rebate ≤ bound

-- the event has the words of one of these orders
pub record IsOfOneOf (orders : List Order) (event : QueuedEvent) : Type 0 where
  pub order : Order
  pub stands : Contains orders order
  pub id : event.id ≡ order.id
  pub owner : event.owner ≡ order.owner
  pub slot : event.slot ≡ order.slot
  pub tier : event.tier ≡ order.tier
  pub client : event.client ≡ order.client

-- What fills and releases say: the maker's price, the limit price, and how a lock is split.
use Rattle.std.specs.Prelude.{ℕ, ◌≡◌, ◌+◌, ◌*◌, ◌≤◌, List, Contains, ⊤}
use Rattle.dex_types.specs.declared.orders.Order.{Order}
use Rattle.dex_types.specs.declared.terms.Lots.{Lots}
use Rattle.dex_types.specs.declared.terms.Program.{Program}
use Rattle.dex_types.specs.declared.terms.Side.{Side}
use Rattle.dex_types.specs.declared.terms.Side.TheVariants.{Bid, Ask}
use Rattle.dex_types.specs.Fees.{maker_rebate, tier_at}
use Rattle.dex_types.specs.QueuedEvent.{QueuedEvent, EventKind, ReleasingOut}
use Rattle.dex_types.specs.Side.{price_of}
use Rattle.dex_types.specs.Owed.{order_lock}
use Rattle.dex_laws.specs.Moved.{filled_coin, filled_pc, filled_rebate}

-- what is filled is traded at the price of the maker's order, and the rebate is that of the maker's tier
pub record IsPricedByMaker (program : Program) (sizes : Lots) (event : QueuedEvent) : Type 0 where
  pub price : filled_pc event * sizes.coin ≡ price_of event.id * filled_coin event * sizes.pc
  pub rebate : filled_rebate event ≡ maker_rebate program (tier_at event.tier) (filled_pc event)

-- an order with the event's id stood there, and what the event releases and what stays locked is what it locked
pub record SplitsLock (side : Side) (sizes : Lots) (orders : List Order) (event : QueuedEvent) : Type 0 where
  pub order : Order
  pub stood : Contains orders order
  pub id : event.id ≡ order.id
  pub split : event.released + event.paid ≡ order_lock side sizes order

-- a release splits the lock of its order
abbrev pub SplitsLockAs : EventKind → Side → Lots → List Order → QueuedEvent → Type 0
SplitsLockAs (ReleasingOut of) side sizes orders event = SplitsLock side sizes orders event
SplitsLockAs kind side sizes orders event = ⊤

-- these lots, traded for this native quote, were traded at the limit price or at a better one for the taker
abbrev pub IsWithinLimit : Side → Lots → ℕ → ℕ → ℕ → Type 0
IsWithinLimit Bid sizes limit lots pc = pc ≤ limit * lots * sizes.pc
IsWithinLimit Ask sizes limit lots pc = limit * lots * sizes.pc ≤ pc

-- a release leaves nothing locked
abbrev pub LeavesNothingAs : EventKind → QueuedEvent → Type 0
LeavesNothingAs (ReleasingOut side) event = event.paid ≡ 0
LeavesNothingAs kind event = ⊤

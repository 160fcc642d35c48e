-- What resting orders lock, and what events take off these locks.
use Rattle.std.specs.Prelude.{ℕ, ◌+◌, List}
use Rattle.dex_types.specs.declared.orders.Order.{Order}
use Rattle.dex_types.specs.declared.terms.Lots.{Lots}
use Rattle.dex_types.specs.declared.terms.Side.{Side}
use Rattle.dex_types.specs.declared.terms.Side.TheVariants.{Bid, Ask}
use Rattle.dex_types.specs.QueuedEvent.{QueuedEvent, EventKind, MakerFill, ReleasingOut}
use Rattle.dex_types.specs.Totals.{total}
use Rattle.dex_types.specs.Owed.{order_lock}

-- the native amount that all orders of a side lock
abbrev pub locked : Side → Lots → List Order → ℕ
locked side sizes orders = total (order_lock side sizes) orders

-- the native amount that an event of this kind took off the locks of the side: what a fill paid, a bid's rebate with
-- it, or what an out released
abbrev pub unlocked_as : Side → EventKind → QueuedEvent → ℕ
unlocked_as Bid (MakerFill Bid) event = event.paid + event.fee_or_rebate
unlocked_as Bid (ReleasingOut Bid) event = event.released
unlocked_as Ask (MakerFill Ask) event = event.paid
unlocked_as Ask (ReleasingOut Ask) event = event.released
unlocked_as side kind event = 0

-- the native amount that this event took off the locks of the side
abbrev pub unlocked : Side → QueuedEvent → ℕ
unlocked side event = unlocked_as side event.kind event

-- of that, what a fill took
abbrev pub taken_off_as : Side → EventKind → QueuedEvent → ℕ
taken_off_as Bid (MakerFill Bid) event = event.paid + event.fee_or_rebate
taken_off_as Ask (MakerFill Ask) event = event.paid
taken_off_as side kind event = 0

-- what this event took off the locks of the side as a fill
abbrev pub taken_off : Side → QueuedEvent → ℕ
taken_off side event = taken_off_as side event.kind event

-- of that, what an out released
abbrev pub let_go_as : Side → EventKind → QueuedEvent → ℕ
let_go_as Bid (ReleasingOut Bid) event = event.released
let_go_as Ask (ReleasingOut Ask) event = event.released
let_go_as side kind event = 0

-- what this event released from the locks of the side as an out
abbrev pub let_go : Side → QueuedEvent → ℕ
let_go side event = let_go_as side event.kind event

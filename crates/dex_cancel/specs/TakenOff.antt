-- What is left of a side and of the event queue when orders leave, one after the other.
use Rattle.std.specs.Prelude.{◌≡◌, ℕ, ◌<◌, ◌^◌, List, [], ◌∷◌, Some, length, map, if◌then◌else◌}
use Rattle.std.specs.List.{All}
use Rattle.dex_types.specs.declared.orders.Order.{Order}
use Rattle.dex_types.specs.declared.terms.Lots.{Lots}
use Rattle.dex_types.specs.declared.terms.Side.{Side}
use Rattle.dex_types.specs.declared.terms.Side.TheVariants.{Bid, Ask}
use Rattle.dex_types.specs.Cancel.{RestingOrder, order_with, without_order}
use Rattle.dex_types.specs.Meeting.{releasing_out}
use Rattle.dex_types.specs.Owed.{order_lock}
use Rattle.dex_types.specs.QueuedEvent.{QueuedEvent, encoded_event}
use Rattle.dex_types.specs.Side.{by_side}
use Rattle.dex_types.specs.Tokens.{is_same_side}
use Rattle.dex_accounts.specs.Keeps.{KeepsSide}
use Rattle.dex_ring.specs.declared.ring_view.RingView.{RingView}
use Rattle.dex_ring.specs.Appended.{HasRoom, appended}
use Rattle.dex_ring.specs.Ring.{IsEventQueue, Ring, pushed, ring_of}

-- a side's orders without this one, where it rests on that side
abbrev pub without_one : Side → RestingOrder → List Order → List Order
without_one side gone orders = if is_same_side side gone.side then without_order gone.order.id orders else orders

-- a side's orders without those of the listed orders that rest on this side
abbrev pub without_all : Side → List RestingOrder → List Order → List Order
without_all side [] orders = orders
without_all side (gone ∷ others) orders = without_all side others (without_one side gone orders)

-- the out of an order that leaves, which releases all that it locks
abbrev pub out_of : Lots → RestingOrder → QueuedEvent
out_of sizes gone = releasing_out gone.side sizes gone.order gone.order.lots

-- the outs of orders that leave, in the order in which they leave
abbrev pub outs_of : Lots → List RestingOrder → List QueuedEvent
outs_of sizes gone = map (out_of sizes) gone

-- an event queue: what its bytes say, and these
pub record Queue : Type 0 where
  pub list : Ring
  pub bytes : List ℕ

-- the event queue that these bytes are
abbrev pub queue_of : List ℕ → Queue
queue_of bytes = record { list = ring_of bytes; bytes = bytes }

-- the event queue with the out of an order
abbrev pub with_out : Lots → RestingOrder → Queue → Queue
with_out sizes gone queue = record {
  list = appended (out_of sizes gone ∷ []) queue.list;
  bytes = pushed queue.bytes (encoded_event (out_of sizes gone));
}

-- the event queue with the outs of orders, one after the other
abbrev pub with_outs : Lots → List RestingOrder → Queue → Queue
with_outs sizes [] queue = queue
with_outs sizes (gone ∷ others) queue = with_outs sizes others (with_out sizes gone queue)

-- each of these orders of a side locks a native amount of 64 bits
abbrev pub DoOrdersFit : Side → Lots → List Order → Type 0
DoOrdersFit side sizes orders = All (λ (order : Order). order_lock side sizes order < 2 ^ 64) orders

-- so does each order of the two sides
abbrev pub DoLocksFit : Lots → List Order → List Order → Type 0
DoLocksFit sizes bids asks = DoOrdersFit Bid sizes bids × DoOrdersFit Ask sizes asks

-- each of these orders rests on its side
abbrev pub DoRest : List RestingOrder → List Order → List Order → Type 0
DoRest gone bids asks = All (λ (resting : RestingOrder). order_with resting.order.id (by_side resting.side bids asks) ≡ Some resting.order) gone

-- ---- what the calls that take orders off are handed, and leave

-- what a cancel is handed of a market's parts: its lot sizes, the two sides' orders, and the event queue
pub record CancelGiven : Type 0 where
  pub sizes : Lots
  pub bids : List Order
  pub asks : List Order
  pub queue : List ℕ

-- what it is handed, by whole views of the two sides and of the queue
abbrev pub handed : {B A : Type 0} → Lots → (B → List Order) → (A → List Order) → B → A → RingView → CancelGiven
handed sizes bids_of asks_of bids asks ring = record { sizes = sizes; bids = bids_of bids; asks = asks_of asks; queue = ring.bytes.now }

-- these orders can leave: the queue is accepted and has room for an out of each, and what an order locks fits 64 bits
pub record CanLeave (gone : List RestingOrder) (given : CancelGiven) : Type 0 where
  pub accepted : IsEventQueue given.queue
  pub locks : DoLocksFit given.sizes given.bids given.asks
  pub room : HasRoom (length gone) (ring_of given.queue)

-- these orders left, and each gave an out
pub record HaveLeft (gone : List RestingOrder) (before after : CancelGiven) : Type 0 where
  pub bids : after.bids ≡ without_all Bid gone before.bids
  pub asks : after.asks ≡ without_all Ask gone before.asks
  pub queue : queue_of after.queue ≡ with_outs before.sizes gone (queue_of before.queue)
  pub accepted : IsEventQueue after.queue

-- these orders left both sides, as many as were told: each gave an out, the sides keep what their traits say, and the
-- queue's view looks at the same slice
pub record HaveGone {B A : Type 0} (BidsHold : B → Type 0) (SameBids : B → B → Type 0) (bid_side : B → Side) (bid_room : B → ℕ) (bids_of : B → List Order)
    (AsksHold : A → Type 0) (SameAsks : A → A → Type 0) (ask_side : A → Side) (ask_room : A → ℕ) (asks_of : A → List Order)
    (gone : List RestingOrder) (told : ℕ) (sizes : Lots) (bids_before bids_after : B) (asks_before asks_after : A) (ring_before ring_after : RingView)
    : Type 0 where
  pub count : told ≡ length gone
  pub left : HaveLeft gone (handed sizes bids_of asks_of bids_before asks_before ring_before) (handed sizes bids_of asks_of bids_after asks_after ring_after)
  pub bids : KeepsSide BidsHold SameBids bid_side bid_room bids_before bids_after
  pub asks : KeepsSide AsksHold SameAsks ask_side ask_room asks_before asks_after
  pub place : ring_after.bytes.ghost_name ≡ ring_before.bytes.ghost_name

-- what is handed of one side alone
pub record SideGiven : Type 0 where
  pub sizes : Lots
  pub side : Side
  pub orders : List Order
  pub queue : List ℕ

-- what is handed of one side, by whole views of the side and of the queue
abbrev pub side_handed : {B : Type 0} → Lots → Side → (B → List Order) → B → RingView → SideGiven
side_handed sizes side orders_of book ring = record { sizes = sizes; side = side; orders = orders_of book; queue = ring.bytes.now }

-- this many orders can leave the side: the queue is accepted, and has room for an out of each
pub record CanLeaveSide (gone : List RestingOrder) (given : SideGiven) : Type 0 where
  pub accepted : IsEventQueue given.queue
  pub room : HasRoom (length gone) (ring_of given.queue)

-- these orders left the side, and each gave an out
pub record HaveLeftSide (gone : List RestingOrder) (before after : SideGiven) : Type 0 where
  pub orders : after.orders ≡ without_all before.side gone before.orders
  pub queue : queue_of after.queue ≡ with_outs before.sizes gone (queue_of before.queue)
  pub accepted : IsEventQueue after.queue

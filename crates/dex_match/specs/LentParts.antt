-- What a new order is handed by views, and what it makes of that.
use Rattle.std.specs.Prelude.{◌≡◌, ℕ, ◌^◌, ◌<◌, ◌≤◌, List, None, Result}
use Rattle.dex_accounts.specs.Keeps.{KeepsEvents, KeepsMarket, KeepsOpen, KeepsRequests}
use Rattle.dex_accounts.specs.Parts.{MarketParts, with_account, with_side}
use Rattle.dex_market.specs.declared.market_ref.MarketRef.{MarketRef}
use Rattle.dex_market.specs.declared.market_view.MarketView.{MarketView}
use Rattle.dex_market.specs.declared.requests.RequestRef.{RequestRef}
use Rattle.dex_market.specs.declared.requests.RequestView.{RequestView}
use Rattle.dex_market.specs.MarketAccount.{market_words, sizes_of}
use Rattle.dex_orders.specs.declared.orders_ref.OrdersRef.{OrdersRef}
use Rattle.dex_orders.specs.declared.orders_view.OrdersView.{OrdersView}
use Rattle.dex_ring.specs.Appended.{appended, pushed_all}
use Rattle.dex_ring.specs.Ring.{IsEventQueue, ring_of}
use Rattle.dex_ring.specs.declared.ring_ref.RingRef.{RingRef}
use Rattle.dex_ring.specs.declared.ring_view.RingView.{RingView}
use Rattle.dex_types.specs.declared.orders.Order.{Order}
use Rattle.dex_types.specs.declared.refusals.Refusal.{Refusal}
use Rattle.dex_types.specs.declared.replies.Reply.{Reply}
use Rattle.dex_types.specs.NewOrder.{order_reply}
use Rattle.dex_types.specs.Side.{opposite}
use Rattle.dex_types.specs.QueuedEvent.{QueuedEvent}
use Rattle.dex_match.specs.declared.order_input.OrderInput.{OrderInput}
use Rattle.dex_match.specs.declared.order_plan.Decided.{Decided}
use Rattle.dex_match.specs.declared.order_plan.OrderPlan.{OrderPlan}
use Rattle.dex_match.specs.declared.order_terms.Taker.{Taker}
use Rattle.dex_match.specs.Applying.{account_bytes_after, bytes_with, intake_of, ordering_over, requests_after}
use Rattle.dex_match.specs.OrderParts.{OrderGiven, given_by, parts_of}
use Rattle.dex_match.specs.Ordering.{order_answer, order_outcome, order_reason}
use Rattle.dex_match.specs.OrderTerms.{order_of}

-- what doing an order is handed: four views, the orders and the room of its own side, and the orders that it meets
pub record Handed : Type 0 where
  pub market : MarketView
  pub requests : RequestView
  pub events : RingView
  pub account : OrdersView
  pub own : List Order
  pub own_room : ℕ
  pub opposing : List Order

-- what is handed by views and by two sides, whose orders and room their traits' members tell
abbrev pub handed : {B A : Type 0} → (B → List Order) → (B → ℕ) → (A → List Order) → MarketView → RequestView → RingView → OrdersView → B → A → Handed
handed own_orders own_room opposing market requests ring account own opposite = record {
  market = market;
  requests = requests;
  events = ring;
  account = account;
  own = own_orders own;
  own_room = own_room own;
  opposing = opposing opposite;
}

-- what the order is given by it
abbrev pub given_in : Handed → OrderGiven
given_in by =
    given_by by.market.bytes.now by.requests.bytes.now by.events.bytes.now by.account.bytes.now by.own by.own_room by.opposing

-- what deciding it is shown
abbrev pub shown : {B A : Type 0} → (B → List Order) → (B → ℕ) → (A → List Order) → MarketRef → RequestRef → RingRef → OrdersRef → B → A → OrderGiven
shown own_orders own_room opposing market requests ring account own opposite =
    given_by market.bytes.now requests.bytes.now ring.bytes.now account.bytes.now (own_orders own) (own_room own) (opposing opposite)

-- what deciding it is shown in one value
abbrev pub shown_in : {B A : Type 0} → (B → List Order) → (B → ℕ) → (A → List Order) → OrderInput B A → OrderGiven
shown_in own_orders own_room opposing input =
    shown own_orders own_room opposing input.market input.requests input.ring input.orders input.own.now input.opposite.now

-- what is decided of it, with the balance of the wallet that pays, a native amount
abbrev pub decided_in : Taker → OrderGiven → ℕ → Result OrderPlan Refusal
decided_in taker given balance = order_answer taker.id_side (order_of taker) (parts_of given) balance

-- the plan or the refusal, and beside a plan what pending makers' fills are still to take off totals after the order
abbrev pub outcome_in : Taker → OrderGiven → ℕ → Result Decided Refusal
outcome_in taker given balance = order_outcome taker.id_side (order_of taker) (parts_of given) balance

-- the events that it appends
abbrev pub events_in : Taker → OrderGiven → List QueuedEvent
events_in taker given = (ordering_over taker.id_side (order_of taker) given).events

-- the reply to the order
abbrev pub reply_in : Taker → OrderGiven → Reply
reply_in taker given = order_reply (order_of taker) (ordering_over taker.id_side (order_of taker) given)

-- accounts, sides and queue after the order: four words of the market and the sequence number are written, its events
-- appended; its account holds it and is paid; what it met has left the opposite side, what is left of it rests on its
-- own
abbrev pub ordered : Taker → OrderGiven → OrderGiven
ordered taker given =
    let side = taker.id_side in
    let n = order_of taker in
    let o = ordering_over side n given in
    record {
      market = bytes_with (intake_of side n o) given.market;
      requests = requests_after given.requests;
      events = pushed_all o.events given.events;
      account = account_bytes_after side (sizes_of (market_words given.market)) n o given.account;
      own = o.posting.side;
      own_room = given.own_room;
      opposing = o.met.left;
    }

-- an order was done on what was handed, and was answered: its reply, what it leaves, and the queue with its events
-- after the others; each view looks at the same slice, the accounts are accepted, and the trader's is open
pub record HasOrdered (taker : Taker) (reply : Reply) (before after : Handed) : Type 0 where
  pub reply_is : reply ≡ reply_in taker (given_in before)
  pub does : given_in after ≡ ordered taker (given_in before)
  pub list : ring_of after.events.bytes.now ≡ appended (events_in taker (given_in before)) (ring_of before.events.bytes.now)
  pub market : KeepsMarket before.market after.market
  pub requests : KeepsRequests before.requests after.requests
  pub events : KeepsEvents before.events after.events
  pub account : KeepsOpen before.account after.account

-- the parts of a market with what an order made of them
abbrev pub with_ordered : Taker → OrderGiven → MarketParts → MarketParts
with_ordered taker given parts =
    with_account taker.account given.account
    (with_side (opposite taker.id_side) given.opposing
    (with_side taker.id_side given.own (record parts { market = given.market; requests = given.requests; events = given.events })))

-- an order was done on what was given: its numbers fit their fields, it was decided with some balance, and the queue
-- holds its events after the others
pub record IsDone (taker : Taker) (given after : OrderGiven) : Type 0 where
  pub price : 1 ≤ taker.price
  pub price_fits : taker.price < 2 ^ 64
  pub lots : taker.lots < 2 ^ 64
  pub lock : taker.lock < 2 ^ 64
  pub client : taker.client < 2 ^ 64
  pub balance : ℕ
  pub accepted : order_reason taker.id_side (order_of taker) (parts_of given) balance ≡ None
  pub does : after ≡ ordered taker given
  pub list : ring_of after.events ≡ appended (events_in taker given) (ring_of given.events)
  pub queue : IsEventQueue after.events

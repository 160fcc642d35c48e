-- What stays the same in what a call is lent: the view looks at the same slice, and the account stays accepted.
use Rattle.std.specs.Prelude.{◌≡◌, ℕ}
use Rattle.dex_types.specs.declared.terms.Side.{Side}
use Rattle.dex_market.specs.declared.market_view.MarketView.{MarketView}
use Rattle.dex_market.specs.declared.requests.RequestView.{RequestView}
use Rattle.dex_market.specs.MarketAccount.{IsMarket}
use Rattle.dex_market.specs.RequestQueue.{IsRequestQueue}
use Rattle.dex_orders.specs.declared.orders_view.OrdersView.{OrdersView}
use Rattle.dex_orders.specs.OrdersAccount.{IsOpen}
use Rattle.dex_ring.specs.declared.ring_view.RingView.{RingView}
use Rattle.dex_ring.specs.Ring.{IsEventQueue}

-- a market account
pub record KeepsMarket (before after : MarketView) : Type 0 where
  pub place : after.bytes.ghost_name ≡ before.bytes.ghost_name
  pub accepted : IsMarket after.bytes.now

-- a request queue
pub record KeepsRequests (before after : RequestView) : Type 0 where
  pub place : after.bytes.ghost_name ≡ before.bytes.ghost_name
  pub accepted : IsRequestQueue after.bytes.now

-- an event queue
pub record KeepsEvents (before after : RingView) : Type 0 where
  pub place : after.bytes.ghost_name ≡ before.bytes.ghost_name
  pub accepted : IsEventQueue after.bytes.now

-- an open account
pub record KeepsOpen (before after : OrdersView) : Type 0 where
  pub place : after.bytes.ghost_name ≡ before.bytes.ghost_name
  pub accepted : IsOpen after.bytes.now

-- a side of the book, by the members of its trait
pub record KeepsSide {B : Type 0} (Holds : B → Type 0) (SamePlace : B → B → Type 0) (side_of : B → Side) (room_of : B → ℕ) (before after : B) : Type 0 where
  pub holding : Holds after
  pub place : SamePlace before after
  pub side : side_of after ≡ side_of before
  pub room : room_of after ≡ room_of before

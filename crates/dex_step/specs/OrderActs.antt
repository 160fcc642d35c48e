-- What new orders are given of the bytes of a market's accounts, and what they leave of them.
use Rattle.std.specs.Prelude.{◌≡◌, ℕ, ◌≤◌, List, Some}
use Rattle.dex_types.specs.declared.replies.Reply.{Reply}
use Rattle.dex_types.specs.declared.terms.Side.{Side}
use Rattle.dex_types.specs.Accounts.{PlainAccount, PlainMarketAccounts}
use Rattle.dex_types.specs.Side.{opposite}
use Rattle.dex_accounts.specs.Owners.{bytes_at, changed_at}
use Rattle.dex_match.specs.declared.order_plan.OrderPlan.{OrderPlan}
use Rattle.dex_match.specs.declared.order_terms.Taker.{Taker}
use Rattle.dex_match.specs.LentParts.{events_in, ordered, reply_in}
use Rattle.dex_match.specs.OrderTerms.{order_of}
use Rattle.dex_match.specs.Ordering.{IsDecided}
use Rattle.dex_match.specs.OrderParts.{IsGiven, OrderGiven, given_by, parts_of}
use Rattle.dex_orders.specs.OrdersAccount.{IsOpen}
use Rattle.dex_ring.specs.Appended.{appended}
use Rattle.dex_ring.specs.Ring.{IsEventQueue, ring_of}
use Rattle.dex_slab.specs.Slab.{resting, room_in}
use Rattle.dex_slab.specs.StandsFor.{IsSideAccount}
use Rattle.dex_step.specs.Acting.{bytes_on}

-- the bytes that a new order reads and writes: of the market account, the two queues, its account, its own side, and
-- the side that it meets
pub record OrderBytes : Type 0 where
  pub market : List ℕ
  pub requests : List ℕ
  pub events : List ℕ
  pub account : List ℕ
  pub own : List ℕ
  pub met : List ℕ

-- what a new order reads and writes, of these bytes
abbrev pub order_bytes : List ℕ → List ℕ → List ℕ → List ℕ → List ℕ → List ℕ → OrderBytes
order_bytes market requests events account own met =
    record { market = market; requests = requests; events = events; account = account; own = own; met = met }

-- what an order of the side is given by them
abbrev pub given_of : Side → OrderBytes → OrderGiven
given_of side bytes =
    given_by bytes.market bytes.requests bytes.events bytes.account (resting side bytes.own) (room_in bytes.own) (resting (opposite side) bytes.met)

-- an order can be done as it was decided: both sides are accepted, the bytes are of one sound market, and it was
-- decided on them
pub record CanOrder (plan : OrderPlan) (taker : Taker) (bytes : OrderBytes) : Type 0 where
  pub price : 1 ≤ taker.price
  pub own : IsSideAccount taker.id_side bytes.own
  pub met : IsSideAccount (opposite taker.id_side) bytes.met
  pub given : IsGiven taker.id_side taker.account (given_of taker.id_side bytes)
  pub decided : IsDecided plan taker.id_side (order_of taker) (parts_of (given_of taker.id_side bytes))

-- it was done: what it made of what it was given stands in the bytes, which are accepted, and the side that it met has
-- its room
pub record HasOrdered (taker : Taker) (reply : Reply) (before after : OrderBytes) : Type 0 where
  pub reply_is : reply ≡ reply_in taker (given_of taker.id_side before)
  pub does : given_of taker.id_side after ≡ ordered taker (given_of taker.id_side before)
  pub list : ring_of after.events ≡ appended (events_in taker (given_of taker.id_side before)) (ring_of before.events)
  pub queue : IsEventQueue after.events
  pub account : IsOpen after.account
  pub own : IsSideAccount taker.id_side after.own
  pub met : IsSideAccount (opposite taker.id_side) after.met
  pub room : room_in after.met ≡ room_in before.met

-- ---- its account among others

-- these bytes, with all open-orders accounts in the place of the order's own
pub record OrderAccounts : Type 0 where
  pub market : List ℕ
  pub requests : List ℕ
  pub events : List ℕ
  pub own : List ℕ
  pub met : List ℕ
  pub accounts : List PlainAccount

-- what a new order reads and writes, with all open-orders accounts, of these bytes
abbrev pub among : List ℕ → List ℕ → List ℕ → List ℕ → List ℕ → List PlainAccount → OrderAccounts
among market requests events own met accounts =
    record { market = market; requests = requests; events = events; own = own; met = met; accounts = accounts }

-- those of a market's accounts, for an order of the side
abbrev pub among_of : Side → PlainMarketAccounts → OrderAccounts
among_of side accounts =
    among accounts.market accounts.requests accounts.events (bytes_on side accounts) (bytes_on (opposite side) accounts) accounts.orders

-- the bytes with these of the order's account
abbrev pub bytes_with : List ℕ → OrderAccounts → OrderBytes
bytes_with account all = order_bytes all.market all.requests all.events account all.own all.met

-- an order can be done as it was decided, by its account, which is among these
pub record CanOrderAmong (plan : OrderPlan) (taker : Taker) (all : OrderAccounts) : Type 0 where
  pub account : List ℕ
  pub found : bytes_at taker.account all.accounts ≡ Some account
  pub can : CanOrder plan taker (bytes_with account all)

-- it was done, and no account changed but its own
pub record HasOrderedAmong (taker : Taker) (reply : Reply) (before after : OrderAccounts) : Type 0 where
  pub was : List ℕ
  pub now : List ℕ
  pub found : bytes_at taker.account before.accounts ≡ Some was
  pub changed : after.accounts ≡ changed_at taker.account (λ old. now) before.accounts
  pub done : HasOrdered taker reply (bytes_with was before) (bytes_with now after)

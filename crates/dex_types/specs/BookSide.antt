-- A side of the book as its callers see it: its resting orders in book order.
use Rattle.std.specs.Prelude.{ℕ, ◌<◌, ◌≤◌, ◌≡◌, List, [], ◌∷◌, Option, Some, None, ◌==◌, length, if◌then◌else◌}
use Rattle.std.specs.List.{All}
use Rattle.dex_types.specs.declared.orders.Order.{Order}
use Rattle.dex_types.specs.declared.terms.Side.{Side}
use Rattle.dex_types.specs.Cancel.{order_with}
use Rattle.dex_types.specs.Posting.{InBookOrder}
use Rattle.dex_types.specs.Side.{price_of}

-- the first of these orders, which is the best, if there is one
abbrev pub best_of : List Order → Option Order
best_of [] = None
best_of (order ∷ others) = Some order

-- the order after the first one with this id, if there is one
abbrev pub order_after : ℕ → List Order → Option Order
order_after id [] = None
order_after id (order ∷ others) = if order.id == id then best_of others else order_after id others

-- the orders, the first with this id having these lots
abbrev pub with_lots : ℕ → ℕ → List Order → List Order
with_lots id lots [] = []
with_lots id lots (order ∷ others) =
    if order.id == id then record order { lots = lots } ∷ others else order ∷ with_lots id lots others

-- an order can rest: it has a price, lots, one of 128 slots and the number of a tier
pub record CanRest (order : Order) : Type 0 where
  pub price : 1 ≤ price_of order.id
  pub lots : 1 ≤ order.lots
  pub slot : order.slot < 128
  pub tier : order.tier < 7

-- no order of these has the id
abbrev pub IsNewId : ℕ → List Order → Type 0
IsNewId id orders = order_with id orders ≡ None

-- these are a side's resting orders: in book order, each as it can rest, and no more than the side has room for
pub record IsBookSide (side : Side) (room : ℕ) (orders : List Order) : Type 0 where
  pub in_order : InBookOrder side orders
  pub can_rest : All CanRest orders
  pub within : length orders ≤ room

-- Walks along a side of the book, from its best order on.
use Rattle.std.specs.Prelude.{ℕ, ◌≡◌, ◌==◌, List, [], ◌∷◌, Option, Some, None, if◌then◌else◌}
use Rattle.dex_types.specs.declared.orders.Order.{Order}
use Rattle.dex_types.specs.Cancel.{order_with}

-- the orders from the one of an id on
abbrev pub from_id : ℕ → List Order → List Order
from_id id [] = []
from_id id (first ∷ others) = if first.id == id then first ∷ others else from_id id others

-- the orders that a walk has before it where this is the next, if there is one
abbrev pub orders_from : Option Order → List Order → List Order
orders_from None orders = []
orders_from (Some order) orders = from_id order.id orders

-- the next order of a walk, if there is one, is one of these
abbrev pub IsReached : Option Order → List Order → Type 0
IsReached None orders = Unit {0}
IsReached (Some order) orders = order_with order.id orders ≡ Some order

-- How an order is put on its side of the book: whether it may rest, where it stands, and what leaves a full side for
-- it.
use Rattle.std.specs.Prelude.{ℕ, ◌-◌, ◌*◌, ◌/◌, List, [], ◌∷◌, Option, Some, None, Bool, IsTrue, true, false, nat_lt, ◌==◌, min, length, take, if◌then◌else◌}
use Rattle.dex_types.specs.declared.orders.Order.{Order}
use Rattle.dex_types.specs.declared.terms.Lots.{Lots}
use Rattle.dex_types.specs.declared.terms.OrderType.{OrderType}
use Rattle.dex_types.specs.declared.terms.OrderType.TheVariants.{Ioc}
use Rattle.dex_types.specs.declared.terms.Side.{Side}
use Rattle.dex_types.specs.declared.terms.Side.TheVariants.{Bid, Ask}
use Rattle.dex_types.specs.Side.{precedes, price_of, crosses}

-- an id stands before all of these orders
abbrev pub PrecedesAll : Side → ℕ → List Order → Type 0
PrecedesAll side id [] = Unit {0}
PrecedesAll side id (order ∷ others) = IsTrue (precedes side id order.id) × PrecedesAll side id others

-- every order stands before all that follow it
abbrev pub InBookOrder : Side → List Order → Type 0
InBookOrder side [] = Unit {0}
InBookOrder side (order ∷ others) = PrecedesAll side order.id others × InBookOrder side others

-- the side with the order in its place
abbrev pub posted : Side → Order → List Order → List Order
posted side order [] = order ∷ []
posted side order (first ∷ others) =
    if precedes side first.id order.id then first ∷ posted side order others else order ∷ first ∷ others

-- the best order left still crosses the limit
abbrev pub still_crosses : Side → ℕ → List Order → Bool
still_crosses side limit [] = false
still_crosses side limit (order ∷ others) = crosses side limit (price_of order.id)

-- the order type lets what is left rest
abbrev pub can_rest : OrderType → Bool
can_rest Ioc = false
can_rest _ = true

-- the lots that rest where the order may: what an ask still wants; of a bid no more than what is left of its lock pays
-- for, without a fee
abbrev pub affordable : Side → Lots → ℕ → ℕ → ℕ → ℕ
affordable Bid sizes price lots lock_left = min lots (lock_left / (price * sizes.pc))
affordable Ask sizes price lots lock_left = lots

-- the lots that rest: of a limit or post-only order, where no opposite order crosses it any more
abbrev pub rested_lots : Side → OrderType → Lots → ℕ → List Order → ℕ → ℕ → ℕ
rested_lots side order_type sizes price opposing lots lock_left =
    if can_rest order_type then (if still_crosses side price opposing then 0 else affordable side sizes price lots lock_left) else 0

-- a side after an order was posted, and the order that had to leave for it
pub record Posting : Type 0 where
  pub side : List Order
  pub booted : Option Order

-- the last order, if there is one
abbrev pub last_of : List Order → Option Order
last_of [] = None
last_of (order ∷ []) = Some order
last_of (order ∷ next ∷ others) = last_of (next ∷ others)

-- an order with no lots is not posted; on a full side the last order leaves first, whether or not the new one is better
abbrev pub post : Side → ℕ → Order → List Order → Posting
post side room order orders =
    if order.lots == 0 then record { side = orders; booted = None }
    else (if nat_lt (length orders) room then record { side = posted side order orders; booted = None }
    else record { side = posted side order (take (length orders - 1) orders); booted = last_of orders })

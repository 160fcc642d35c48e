-- Where a posted order stands, and a fact about every posting on a side.
use Rattle.std.specs.Prelude.{ℕ, ◌+◌, ◌<◌, List, [], ◌∷◌, Option, Some, None, if◌then◌else◌}
use Rattle.dex_types.specs.declared.orders.Order.{Order}
use Rattle.dex_types.specs.declared.terms.Side.{Side}
use Rattle.dex_types.specs.Posting.{Posting, post}
use Rattle.dex_types.specs.Side.{precedes}

-- how many orders stand before an order with this id, in book order
abbrev pub place_of : Side → ℕ → List Order → ℕ
place_of side id [] = 0
place_of side id (first ∷ others) = if precedes side first.id id then place_of side id others + 1 else 0

-- what an order weighs, if there is one
abbrev pub weight_of : (Order → ℕ) → Option Order → ℕ
weight_of weight None = 0
weight_of weight (Some order) = weight order

-- the fact holds of every posting on a side with room for some order: of the side, its room, the order, the orders that
-- stood, and what came of posting
abbrev pub EachPosting : (Side → ℕ → Order → List Order → Posting → Type 0) → Type 0
EachPosting Fact = (side : Side) (room : ℕ) (order : Order) (orders : List Order) → 0 < room → Fact side room order orders (post side room order orders)

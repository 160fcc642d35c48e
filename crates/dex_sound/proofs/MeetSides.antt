-- what holds of each side of a market after a taker met one of them
use Rattle.std.proofs.Common.{ℕ, ◌<◌, ◌≡◌, List, Some, arith}
use Rattle.std.specs.List.{All}
use Rattle.std.proofs.lemmas.List.Elements.{All-weaker}
use Rattle.dex_types.specs.declared.orders.Order.{Order}
use Rattle.dex_types.specs.declared.terms.Lots.{Lots}
use Rattle.dex_types.specs.declared.terms.Side.{Side}
use Rattle.dex_types.specs.declared.terms.Side.TheVariants.{Bid, Ask}
use Rattle.dex_types.specs.Meeting.{TakerTerms, Demand, less, meet, maker_fill}
use Rattle.dex_types.specs.QueuedEvent.{QueuedEvent}
use Rattle.dex_types.specs.Side.{opposite}
use Rattle.dex_types.specs.Soundness.{IsProper, held_at, order_holding, event_holding}
use Rattle.dex_types.specs.Trader.{Traders}
use Rattle.dex_laws.proofs.EachEventLaws.{meet-each, meet-words}
use Rattle.dex_laws.proofs.LeftLaws.{meet-left, All-left}
use Rattle.dex_laws.proofs.LockLaws.{IsPriced, order_lock-less}

-- an order with fewer lots, some of them, is proper
proper-less : (side : Side) (sizes : Lots) (order : Order) (lots : ℕ) → 0 < lots → lots < order.lots → IsProper side sizes order → IsProper side sizes (less order lots)
proper-less side sizes order lots some part proper = record {
  price = proper.price;
  lots = omega arith;
  lock = omega (arith, proper.lock, order_lock-less side sizes order lots (omega arith));
  tier = proper.tier;
}

-- what is left of a side of proper orders is proper
pub proper-left : (maker : Side) (sizes : Lots) (side : Side) (t : TakerTerms) (w : Demand) (orders : List Order)
    → All (IsProper maker sizes) orders → All (IsProper maker sizes) (meet side t w orders).left
proper-left maker sizes side t w orders proper = All-left (IsProper maker sizes) (proper-less maker sizes) (meet side t w orders).left orders (meet-left side t w orders) proper

-- a proper order has a price
pub priced : (side : Side) (sizes : Lots) (orders : List Order) → All (IsProper side sizes) orders → All IsPriced orders
priced side sizes orders proper = All-weaker (IsProper side sizes) IsPriced (λ order is. omega (arith, is.price)) orders proper

-- the order's slot holds it
abbrev pub IsResting : Traders → Side → Order → Type 0
IsResting traders side order = held_at order.owner order.slot traders ≡ Some (order_holding side order)

-- the slot of the event's order holds it
abbrev pub IsPending : Traders → QueuedEvent → Type 0
IsPending traders event = held_at event.owner event.slot traders ≡ Some (event_holding event)

pub resting-left : (traders : Traders) (maker : Side) (side : Side) (t : TakerTerms) (w : Demand) (orders : List Order)
    → All (IsResting traders maker) orders → All (IsResting traders maker) (meet side t w orders).left
resting-left traders maker side t w orders resting =
    All-left (IsResting traders maker) (λ order lots some part is. is) (meet side t w orders).left orders (meet-left side t w orders) resting

pending-fill : (traders : Traders) (maker : Side) (t : TakerTerms) (order : Order) (lots : ℕ) → IsResting traders maker order → IsPending traders (maker_fill maker t order lots)
pending-fill traders Bid t order lots is = is
pending-fill traders Ask t order lots is = is

-- the events of a meeting are of orders that slots hold
pub pending-met : (traders : Traders) (side : Side) (t : TakerTerms) (w : Demand) (orders : List Order)
    → All (IsResting traders (opposite side)) orders → All (IsPending traders) (meet side t w orders).events
pending-met traders side t w orders resting =
    meet-each (IsResting traders (opposite side)) (IsPending traders) side t
    (λ order lots is within. is) (λ order lots is within. pending-fill traders (opposite side) t order lots is) (λ order is. is) w orders resting

-- and have the number of a tier
pub tiers-met : (maker : Side) (sizes : Lots) (side : Side) (t : TakerTerms) (w : Demand) (orders : List Order)
    → All (IsProper maker sizes) orders → All (λ (e : QueuedEvent). e.tier < 7) (meet side t w orders).events
tiers-met maker sizes side t w orders proper =
    meet-words (IsProper maker sizes) (λ (e : QueuedEvent). e.tier < 7) (λ kind order released paid rebate is. is.tier) side t w orders proper

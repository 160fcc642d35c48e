-- What a taker would meet of a list of orders.
use Rattle.std.specs.Prelude.{ℕ, ◌≡◌, ◌+◌, ◌*◌, ◌^◌, ◌<◌, ◌≤◌, List, [], ◌∷◌, is_some, drop, length}
use Rattle.dex_types.specs.declared.orders.Order.{Order}
use Rattle.dex_types.specs.declared.terms.Lots.{Lots}
use Rattle.dex_types.specs.declared.terms.Side.{Side}
use Rattle.dex_types.specs.declared.terms.Side.TheVariants.{Bid, Ask}
use Rattle.dex_types.specs.Meeting.{Demand, Meeting, TakerTerms, less, met_lots, met_pc, met_rebate}
use Rattle.dex_types.specs.Owed.{order_lock}
use Rattle.dex_types.specs.Posting.{still_crosses}
use Rattle.dex_fills.specs.Taker.{demand}
use Rattle.dex_eager_market.specs.declared.foreseeing.ListProspect.{ListProspect}
use Rattle.dex_eager_market.specs.declared.foreseeing.Sums.{Sums}

-- the fills of a resting order fit 64 bits, and it has the number of a tier
pub record CanFill (side : Side) (sizes : Lots) (order : Order) : Type 0 where
  pub lock : order_lock side sizes order < 2 ^ 64
  pub tier : order.tier < 7

-- what a taker may trade fits 64 bits: the quote that a bid can spend, the base that an ask sells
pub record IsModest (side : Side) (sizes : Lots) (w : Demand) : Type 0 where
  pub budget : side ≡ Bid → w.budget * sizes.pc < 2 ^ 64
  pub lots : side ≡ Ask → w.lots * sizes.coin < 2 ^ 64
  pub matches : w.matches < 2 ^ 16

-- the sums with what one more order moves that loses these lots
pub record AddsOrder (t : TakerTerms) (order : Order) (lots : ℕ) (sums after : Sums) : Type 0 where
  pub base : after.base ≡ sums.base + met_lots t order lots * t.sizes.coin
  pub pc : after.pc ≡ sums.pc + met_pc t order lots
  pub rebates : after.rebates ≡ sums.rebates + met_rebate t order lots

-- the orders, of which the first has lost so many lots
abbrev pub less_first : ℕ → List Order → List Order
less_first part [] = []
less_first part (order ∷ others) = less order part ∷ others

-- what is left of orders of which so many are gone, and the next has lost a part
abbrev pub left_by : ℕ → ℕ → List Order → List Order
left_by gone part orders = less_first part (drop gone orders)

-- what was foreseen of a meeting with these orders
pub record IsForeseen (side : Side) (sizes : Lots) (limit : ℕ) (orders : List Order) (met : Meeting) (foreseen : ListProspect) : Type 0 where
  pub demand_is : demand foreseen.want ≡ met.demand
  pub base : foreseen.sums.base ≡ met.lots * sizes.coin
  pub pc : foreseen.sums.pc ≡ met.pc
  pub rebates : foreseen.sums.rebates ≡ met.rebates
  pub left : left_by foreseen.gone foreseen.part orders ≡ met.left
  pub within : foreseen.gone ≤ length orders
  pub crosses : foreseen.crosses ≡ still_crosses side limit met.left
  pub aborts : foreseen.aborts ≡ is_some met.aborts

-- When both sides of a market are in order and no bid crosses an ask.
use Rattle.std.specs.Prelude.{ℕ, ◌<◌, List, All}
use Rattle.dex_types.specs.declared.orders.Order.{Order}
use Rattle.dex_types.specs.declared.terms.Side.{Side}
use Rattle.dex_types.specs.declared.terms.Side.TheVariants.{Bid, Ask}
use Rattle.dex_types.specs.Market.{Market}
use Rattle.dex_types.specs.Posting.{InBookOrder}
use Rattle.dex_types.specs.Side.{price_of, sequence_of}

-- every bid's price is below every ask's
abbrev pub IsUncrossed : List Order → List Order → Type 0
IsUncrossed bids asks = All (λ (bid : Order). All (λ (ask : Order). price_of bid.id < price_of ask.id) asks) bids

-- the orders of a side stand in book order, and each has a sequence number below the next
pub record IsSideInOrder (side : Side) (next : ℕ) (orders : List Order) : Type 0 where
  pub sorted : InBookOrder side orders
  pub numbered : All (λ (order : Order). sequence_of side order.id < next) orders

-- both sides are in order, and no bid crosses an ask
pub record IsBookInOrder (m : Market) : Type 0 where
  pub bids : IsSideInOrder Bid m.next_sequence m.bids
  pub asks : IsSideInOrder Ask m.next_sequence m.asks
  pub uncrossed : IsUncrossed m.bids m.asks

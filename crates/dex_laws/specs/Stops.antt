-- Why a taker goes no further, and at which own order it has to abort.
use Rattle.std.specs.Prelude.{ℕ, ◌≡◌, ◌<◌, true, false}
use Rattle.dex_types.specs.declared.orders.Order.{Order}
use Rattle.dex_types.specs.declared.terms.SelfTrade.TheVariants.{Abort}
use Rattle.dex_types.specs.declared.terms.Side.{Side}
use Rattle.dex_types.specs.declared.terms.Side.TheVariants.{Bid}
use Rattle.dex_types.specs.Meeting.{TakerTerms, Demand, is_own, is_post_only}
use Rattle.dex_types.specs.Side.{price_of, crosses}

-- why a taker goes no further at this best order
pub data StopsAt (side : Side) (t : TakerTerms) (w : Demand) (order : Order) : Type 0 where
  Satisfied : w.lots ≡ 0 → StopsAt side t w order
  OutOfMatches : w.matches ≡ 0 → StopsAt side t w order
  DoesNotCross : crosses side t.limit_price (price_of order.id) ≡ false → StopsAt side t w order
  MeetsNone : is_post_only t.order_type ≡ true → StopsAt side t w order
  HasToAbort : is_own t.owner order ≡ true → t.self_trade ≡ Abort → StopsAt side t w order
  CannotPay : side ≡ Bid → w.budget < price_of order.id → StopsAt side t w order

-- the own order at which a taker has to abort: the best one left, which it would have met
pub record AbortsAt (side : Side) (t : TakerTerms) (w : Demand) (order : Order) (id : ℕ) : Type 0 where
  pub is : order.id ≡ id
  pub own : is_own t.owner order ≡ true
  pub rule : t.self_trade ≡ Abort
  pub wants : 0 < w.lots
  pub may_meet : 0 < w.matches
  pub crossing : crosses side t.limit_price (price_of order.id) ≡ true

-- What was decided of a new order on a market, and the step that it makes there.
use Rattle.std.specs.Prelude.{◌≡◌, ◌≤◌, ◌++◌, Some, None}
use Rattle.dex_types.specs.declared.rows.Seen.{Seen}
use Rattle.dex_types.specs.declared.rows.WalletSeen.{WalletSeen}
use Rattle.dex_types.specs.Market.{Market}
use Rattle.dex_types.specs.NewOrder.{order_on}
use Rattle.dex_types.specs.Requests.{open_party}
use Rattle.dex_types.specs.Soundness.{IsSound}
use Rattle.dex_types.specs.Steps.{Step, by_party, ordered}
use Rattle.dex_types.specs.Trader.{Account, Open, trader_at}
use Rattle.dex_types.specs.Why.{order_reading, payer, why_ordering}
use Rattle.dex_match.specs.declared.order_plan.OrderPlan.{OrderPlan}
use Rattle.dex_match.specs.declared.order_terms.Taker.{Taker}
use Rattle.dex_match.specs.OrderTerms.{order_of}
use Rattle.dex_match.specs.Ordering.{plan_by}
use Rattle.dex_ring.specs.declared.pending_fills.PendingFills.{PendingFills}
use Rattle.dex_ring.specs.PendingFills.{pending_fills_of}

-- the step of a new order as its trader states it, for the account at `taker.account`, if that is open
abbrev pub order_step : Taker → Market → Step
order_step taker m =
    by_party (λ party. ordered taker.id_side (order_of taker) m party (order_on taker.id_side m party.account (order_of taker))) m
    (open_party taker.account (trader_at taker.account m.traders))

-- the order was decided on the market: its account is open, no reason holds against it with the wallet that pays for it
-- as some row saw it, and the plan and the sums are those of what it does; and the market after it is sound
pub record IsOrderDecided (taker : Taker) (plan : OrderPlan) (pending : PendingFills) (m : Market) : Type 0 where
  pub account : Account
  pub known : trader_at taker.account m.traders ≡ Some (Open account)
  pub price : 1 ≤ taker.price
  pub seen : Seen
  pub wallet : WalletSeen
  pub pays : payer taker.id_side seen ≡ Some wallet
  pub accepted : why_ordering taker.id_side (order_of taker) (order_reading taker.id_side (order_of taker) seen m account) ≡ None
  pub planned : plan ≡ plan_by (order_of taker) (order_on taker.id_side m account (order_of taker))
  pub sums : pending ≡ pending_fills_of (m.events ++ (order_on taker.id_side m account (order_of taker)).events)
  pub sound : IsSound (order_step taker m).market

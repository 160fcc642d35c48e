-- What was decided of a take on a market, and the step that it makes there.
use Rattle.std.specs.Prelude.{◌≡◌, ℕ, None}
use Rattle.dex_types.specs.declared.rows.Seen.{Seen}
use Rattle.dex_types.specs.Market.{Market, orders}
use Rattle.dex_types.specs.Side.{opposite}
use Rattle.dex_types.specs.Soundness.{IsSound}
use Rattle.dex_types.specs.Steps.{Step, act_take}
use Rattle.dex_types.specs.Take.{take_meeting}
use Rattle.dex_types.specs.Why.{take_reading, why_taking}
use Rattle.dex_match.specs.declared.order_terms.Taker.{Taker}
use Rattle.dex_ring.specs.declared.pending_fills.PendingFills.{PendingFills}
use Rattle.dex_ring.specs.PendingFills.{pending_fills_of}
use Rattle.dex_take.specs.declared.plan.TakePlan.{TakePlan}
use Rattle.dex_take.specs.TakeTerms.{bare_take, take_of}
use Rattle.dex_take.specs.Taking.{plan_by}

-- the step of a take, as its taker states it; its least fill decides only whether it is refused
abbrev pub take_step : Taker → Market → Step
take_step taker m = act_take taker.id_side (bare_take taker) m

-- the take was decided on the market: with some least fill no reason holds against it, with the wallets as some row saw
-- them, and the plan and the sums are those of what it does; and the market after it is sound
pub record IsTakeDecided (taker : Taker) (plan : TakePlan) (pending : PendingFills) (m : Market) : Type 0 where
  pub min_lots : ℕ
  pub min_pc : ℕ
  pub seen : Seen
  pub accepted : why_taking taker.id_side (take_of taker min_lots min_pc) seen (take_reading taker.id_side (take_of taker min_lots min_pc) seen m) ≡ None
  pub planned : plan ≡ plan_by taker.id_side m.listing.sizes (take_of taker min_lots min_pc)
      (take_meeting taker.id_side m.listing.sizes (take_of taker min_lots min_pc) (orders (opposite taker.id_side) m))
  pub sums : pending ≡ pending_fills_of (take_step taker m).market.events
  pub sound : IsSound (take_step taker m).market

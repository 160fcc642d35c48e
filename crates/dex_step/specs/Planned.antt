-- What follows of a plan that was decided: what was decided of it on the market, and that the step is the plan's.
use Rattle.std.specs.Prelude.{◌≡◌, List, ◌∷◌}
use Rattle.dex_types.specs.declared.addresses.Address.{Address}
use Rattle.dex_types.specs.Market.{Market}
use Rattle.dex_types.specs.Requests.{Request}
use Rattle.dex_types.specs.Steps.{Step, done}
use Rattle.dex_cancel.specs.Cancelling.{named_by}
use Rattle.dex_plan.specs.declared.plan.Plan.{Plan}
use Rattle.dex_plan.specs.declared.plan.Plan.TheVariants as plans
use Rattle.dex_step.specs.CancelActs.{IsCancelDecided, cancel_step}
use Rattle.dex_step.specs.ConsumeActs.{consume_step}
use Rattle.dex_step.specs.FundActs.{IsCloseDecided, IsDisableDecided, IsInitDecided, IsSettleDecided, IsSweepDecided, close_step, disable_step, init_step, settle_step, sweep_step}
use Rattle.dex_step.specs.OrderRows.{IsOrderDecided, order_step}
use Rattle.dex_step.specs.TakeRows.{IsTakeDecided, take_step}

-- a fact of the account that is named first
pub record OfFirst (named : List Address) (P : Address → Type 0) : Type 0 where
  pub address : Address
  pub others : List Address
  pub is : named ≡ address ∷ others
  pub holds : P address

-- what was decided of a plan, on the market, for a request with this step
abbrev pub IsPlanned : Plan → Request → Market → Step → Type 0
IsPlanned plans.Nothing request m s = s ≡ done m
IsPlanned (plans.Consume limit) request m s = s ≡ consume_step limit request.named m
IsPlanned (plans.Order taker plan pending) request m s = IsOrderDecided taker plan pending m × (s ≡ order_step taker m)
IsPlanned (plans.Take taker plan pending) request m s = IsTakeDecided taker plan pending m × (s ≡ take_step taker m)
IsPlanned (plans.Cancel what) request m s =
    OfFirst request.named (λ owner. IsCancelDecided (named_by what) owner m × (s ≡ cancel_step (named_by what) owner m))
IsPlanned (plans.Settle plan) request m s = OfFirst request.named (λ owner. IsSettleDecided plan owner m × (s ≡ settle_step plan owner m))
IsPlanned plans.Disable request m s = IsDisableDecided m × (s ≡ disable_step m)
IsPlanned (plans.Sweep fees) request m s = IsSweepDecided fees m × (s ≡ sweep_step m)
IsPlanned plans.Close request m s = OfFirst request.named (λ owner. IsCloseDecided owner m × (s ≡ close_step owner m))
IsPlanned plans.Init request m s = OfFirst request.named (λ owner. IsInitDecided owner request.signer m × (s ≡ init_step owner request.signer m))

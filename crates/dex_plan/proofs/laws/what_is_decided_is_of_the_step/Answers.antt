use Rattle.std.proofs.Common.{sym, ap, ◌∙◌}
use Rattle.dex_types.specs.Steps.{Step}
use Rattle.dex_types.specs.Why.{why}
use Rattle.dex_ring.specs.PendingFills.{pending_fills_of}
use Rattle.dex_plan.specs.Owing.{sums_told}
use Rattle.dex_plan.specs.Plans.{plan_decoded}
use Rattle.dex_plan.proofs.StepLaws.{plan-sums, planned-moves, step-acted, step-refused, told-plan}
use Rattle.dex_plan.proofs.laws.what_is_decided_is_of_the_step.Goals as goal

pub returns-clause-refused : goal.returns-clause-refused
returns-clause-refused c = step-refused

pub returns-clause-moves : goal.returns-clause-moves
returns-clause-moves c request seen m plan told = planned-moves plan request seen m (sym told)

pub returns-clause-sums : goal.returns-clause-sums
returns-clause-sums c request seen m plan sums told sums_is =
    let planned = plan_decoded request.instruction request seen m in
    plan-sums request.instruction request seen m sums (ap sums_told (told-plan (why request seen m) planned plan told) ∙ sums_is)
    ∙ ap (λ (s : Step). pending_fills_of s.market.events) (sym (step-acted request seen m plan told))

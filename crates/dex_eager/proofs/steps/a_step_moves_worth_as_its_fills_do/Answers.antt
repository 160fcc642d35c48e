use Rattle.dex_eager.proofs.EachStep.{step-paid}
use Rattle.dex_eager.proofs.steps.a_step_moves_worth_as_its_fills_do.Goals as goal

pub returns : goal.returns
returns c = step-paid

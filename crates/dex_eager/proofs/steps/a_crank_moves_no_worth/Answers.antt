use Rattle.dex_eager.proofs.HistorySteps.{crank-paid}
use Rattle.dex_eager.proofs.steps.a_crank_moves_no_worth.Goals as goal

pub returns : goal.returns
returns c = crank-paid

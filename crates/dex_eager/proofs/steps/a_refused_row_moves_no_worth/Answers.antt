use Rattle.dex_eager.proofs.HistorySteps.{reason-paid}
use Rattle.dex_eager.proofs.steps.a_refused_row_moves_no_worth.Goals as goal

pub returns : goal.returns
returns c = reason-paid

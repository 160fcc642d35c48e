use Rattle.dex_history.proofs.PriceLaws.{crank-answered}
use Rattle.dex_history.proofs.soundness.a_crank_row_is_never_refused.Goals as goal

pub returns : goal.returns
returns c = crank-answered

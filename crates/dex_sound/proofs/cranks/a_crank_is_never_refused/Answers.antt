use Rattle.dex_sound.proofs.CrankLaws.{crank-not_refused}
use Rattle.dex_sound.proofs.cranks.a_crank_is_never_refused.Goals as goal

pub returns : goal.returns
returns c = crank-not_refused

use Rattle.dex_sound.proofs.CrankLaws.{after_crank-add, after_cranks-one, after_cranks-same}
use Rattle.dex_sound.proofs.cranks.a_crank_is_any_split_of_it.Goals as goal

pub returns-clause-sums : goal.returns-clause-sums
returns-clause-sums c = after_crank-add

pub returns-clause-one_call : goal.returns-clause-one_call
returns-clause-one_call c = after_cranks-one

pub returns-clause-same : goal.returns-clause-same
returns-clause-same c = after_cranks-same

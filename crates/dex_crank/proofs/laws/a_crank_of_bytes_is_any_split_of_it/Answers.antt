use Rattle.dex_crank.proofs.CountLaws.{after_calls-one, after_calls-same, paid_bytes-add}
use Rattle.dex_crank.proofs.laws.a_crank_of_bytes_is_any_split_of_it.Goals as goal

pub returns-clause-sums : goal.returns-clause-sums
returns-clause-sums c = paid_bytes-add

pub returns-clause-one_call : goal.returns-clause-one_call
returns-clause-one_call c = after_calls-one

pub returns-clause-same : goal.returns-clause-same
returns-clause-same c = after_calls-same

use Rattle.dex_replay.proofs.Singles.{never-held, order-by-rows, replay-by-rows, rows-single}
use Rattle.dex_replay.proofs.laws.without_swaps_rows_act_one_by_one.Goals as goal

pub returns-clause-items : goal.returns-clause-items
returns-clause-items c = rows-single

pub returns-clause-replay : goal.returns-clause-replay
returns-clause-replay c = replay-by-rows

pub returns-clause-order : goal.returns-clause-order
returns-clause-order c = order-by-rows

pub returns-clause-own : goal.returns-clause-own
returns-clause-own c = never-held

use Rattle.dex_replay.proofs.Common.{items_of, world_after}
use Rattle.dex_replay.proofs.OneReplay.{left-alike}
use Rattle.dex_replay.proofs.laws.a_script_has_one_replay.Goals as goal

pub returns-clause-replay : goal.returns-clause-replay
returns-clause-replay c = λ script one other. left-alike script (world_after script (items_of script.rows)) one other

pub returns-clause-order : goal.returns-clause-order
returns-clause-order c = λ script order one other. left-alike script (world_after script order) one other

use Rattle.dex_replay.proofs.RunOf.{order-is-run}
use Rattle.dex_replay.proofs.laws.what_one_order_leaves_is_a_run.Goals as goal

pub returns : goal.returns
returns c = order-is-run

use Rattle.dex_replay.proofs.RunOf.{replay-in-order}
use Rattle.dex_replay.proofs.laws.a_replay_is_in_one_order.Goals as goal

pub returns : goal.returns
returns c = replay-in-order

use Rattle.dex_serializable.proofs.Ends.{one-order}
use Rattle.dex_serializable.proofs.laws.what_lanes_leave_is_a_replay.Goals as goal

pub returns : goal.returns
returns c = one-order

use Rattle.dex_sound.proofs.CancelledLaws.{cancelled-taken}
use Rattle.dex_sound.proofs.soundness.a_cancel_takes_own_resting_orders.Goals as goal

pub returns : goal.returns
returns c = cancelled-taken

use Rattle.dex_sound.proofs.StepSound.{step-sound}
use Rattle.dex_sound.proofs.soundness.every_step_keeps_a_market_sound.Goals as goal

pub returns : goal.returns
returns c = step-sound

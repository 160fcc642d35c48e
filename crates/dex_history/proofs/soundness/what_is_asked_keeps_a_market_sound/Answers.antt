use Rattle.dex_history.proofs.PriceLaws.{asked-sound}
use Rattle.dex_history.proofs.soundness.what_is_asked_keeps_a_market_sound.Goals as goal

pub returns : goal.returns
returns c = asked-sound

use Rattle.dex_sound.proofs.MadeLaws.{made_market-sound}
use Rattle.dex_sound.proofs.made.a_made_market_is_sound.Goals as goal

pub returns : goal.returns
returns c = made_market-sound

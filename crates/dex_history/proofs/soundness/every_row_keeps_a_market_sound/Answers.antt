use Rattle.dex_history.proofs.PriceLaws.{row-sound}
use Rattle.dex_history.proofs.soundness.every_row_keeps_a_market_sound.Goals as goal

pub returns : goal.returns
returns c = row-sound

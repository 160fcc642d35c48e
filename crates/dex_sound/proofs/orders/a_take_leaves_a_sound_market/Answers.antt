use Rattle.dex_sound.proofs.TakeSound.{take-sound}
use Rattle.dex_sound.proofs.orders.a_take_leaves_a_sound_market.Goals as goal

pub returns : goal.returns
returns c = take-sound

use Rattle.dex_sound.proofs.OrderSound.{order-sound}
use Rattle.dex_sound.proofs.orders.a_new_order_leaves_a_sound_market.Goals as goal

pub returns : goal.returns
returns c = order-sound

use Rattle.dex_history.proofs.PriceLaws.{decoded-priced}
use Rattle.dex_history.proofs.soundness.what_decodes_states_a_price.Goals as goal

pub returns : goal.returns
returns c = decoded-priced

use Rattle.dex_sound.proofs.KeepLaws.{step-keeps}
use Rattle.dex_sound.proofs.keeping.only_transfers_move_vaults.Goals as goal

pub returns : goal.returns
returns c = step-keeps

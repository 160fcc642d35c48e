use Rattle.dex_history.proofs.WalletLaws.{places-movements}
use Rattle.dex_history.proofs.histories.an_entry_holds_each_movement.Goals as goal

pub returns : goal.returns
returns c = λ call s. places-movements call.seen s.transfers

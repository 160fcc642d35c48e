use Rattle.dex_history.proofs.WalletLaws.{movements-named}
use Rattle.dex_history.proofs.histories.a_row_moves_the_wallets_that_it_names.Goals as goal

pub returns : goal.returns
returns c = movements-named

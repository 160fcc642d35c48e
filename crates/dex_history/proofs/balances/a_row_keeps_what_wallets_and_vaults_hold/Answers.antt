use Rattle.dex_history.proofs.StepConserves.{row-conserves}
use Rattle.dex_history.proofs.StepMints.{row-meets}
use Rattle.dex_history.proofs.balances.a_row_keeps_what_wallets_and_vaults_hold.Goals as goal

pub returns-clause-meets : goal.returns-clause-meets
returns-clause-meets c = row-meets

pub returns-clause-keeps : goal.returns-clause-keeps
returns-clause-keeps c = row-conserves

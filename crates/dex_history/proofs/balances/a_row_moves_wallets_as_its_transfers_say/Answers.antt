use Rattle.dex_history.proofs.StepMoves.{row-moves, row-possible}
use Rattle.dex_history.proofs.balances.a_row_moves_wallets_as_its_transfers_say.Goals as goal

pub returns-clause-each : goal.returns-clause-each
returns-clause-each c = row-moves

pub returns-clause-possible : goal.returns-clause-possible
returns-clause-possible c = row-possible

use Rattle.dex_purse.proofs.laws.wallets_move_as_their_row_says.Goals as goal
use Rattle.dex_purse.proofs.PurseLaws as laws

pub returns-clause-taken : goal.returns-clause-taken
returns-clause-taken c roles held seen t sees apart slot mine = laws.taken roles held seen t sees apart slot mine

pub returns-clause-brought : goal.returns-clause-brought
returns-clause-brought c roles held seen t sees apart slot mine = laws.brought roles held seen t sees apart slot mine

pub returns-clause-can : goal.returns-clause-can
returns-clause-can c roles held seen t sees apart wallets moves slot = laws.can-each roles held seen t sees apart wallets moves slot

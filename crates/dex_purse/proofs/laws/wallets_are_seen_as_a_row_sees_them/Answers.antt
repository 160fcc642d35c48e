use Rattle.dex_purse.proofs.laws.wallets_are_seen_as_a_row_sees_them.Goals as goal
use Rattle.dex_purse.proofs.PurseLaws as laws

pub returns : goal.returns
returns c asked roles held seen named sees apart = laws.seen-by asked roles held seen named sees apart

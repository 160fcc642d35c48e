use Rattle.std.proofs.Common.{length}
use Rattle.dex_turns.proofs.at.At.+with_wallets.Given as goal

abbrev pub decreases-with_wallets : goal.decreases-with_wallets
decreases-with_wallets g l = length l.others.now

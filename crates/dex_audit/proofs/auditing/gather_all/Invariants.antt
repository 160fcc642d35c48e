use Rattle.std.proofs.Common.{map, take}
use Rattle.dex_types.specs.Accounts.{market_accounts_of}
use Rattle.dex_audit.specs.Audited.{AreGathered}
use Rattle.dex_audit.proofs.auditing.gather_all.Given as goal

abbrev pub invariant-loop-at : goal.invariant-loop-at
invariant-loop-at l = AreGathered l.all.items (take l.at (map market_accounts_of l.markets))

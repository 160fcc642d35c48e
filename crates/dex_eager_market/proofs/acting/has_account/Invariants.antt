use Rattle.std.proofs.Common.{◌≡◌, drop, map}
use Rattle.dex_eager.specs.Eager.{has_account}
use Rattle.dex_eager_market.specs.Accounts.{entry_of}
use Rattle.dex_eager_market.proofs.acting.has_account.Given as goal

abbrev pub invariant-loop-place : goal.invariant-loop-place
invariant-loop-place l = has_account l.owner (map entry_of l.accounts) ≡ has_account l.owner (map entry_of (drop l.place l.accounts))

use Rattle.std.proofs.Common.{◌≡◌, drop, map}
use Rattle.dex_eager.specs.Eager.{worth_at}
use Rattle.dex_eager_market.specs.Accounts.{entry_of}
use Rattle.dex_eager_market.proofs.market.worth_in.Given as goal

abbrev pub invariant-loop-place : goal.invariant-loop-place
invariant-loop-place l = worth_at l.owner (map entry_of l.accounts) ≡ worth_at l.owner (map entry_of (drop l.place l.accounts))

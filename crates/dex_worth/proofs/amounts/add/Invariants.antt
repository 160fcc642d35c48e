use Rattle.std.proofs.Common.{◌≡◌, take}
use Rattle.dex_worth.specs.Amounts.{added}
use Rattle.dex_worth.proofs.amounts.add.Given as goal

abbrev pub invariant-loop-place : goal.invariant-loop-place
invariant-loop-place l = l.sums ≡ added l.owner l.more (take l.place l.owners) l.initial.sums

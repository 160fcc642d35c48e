use Rattle.std.proofs.Common.{take}
use Rattle.dex_totals.specs.Tallies.{AreIds}
use Rattle.dex_totals.proofs.counts.count_ids.Given as goal

abbrev pub invariant-loop-place : goal.invariant-loop-place
invariant-loop-place l = AreIds l.ids (take l.place l.orders)

use Rattle.std.proofs.Common.{ℕ, take}
use Rattle.dex_bank.specs.Counts.{AreCounted, times_told}
use Rattle.dex_bank.proofs.counting.count_each.Given as goal

abbrev pub invariant-loop-i : goal.invariant-loop-i
invariant-loop-i l = AreCounted (λ (place : ℕ). times_told place (take l.i l.told)) l.fn.counts l.counts

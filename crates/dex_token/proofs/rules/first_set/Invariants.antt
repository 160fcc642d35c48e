use Rattle.std.proofs.Common.{◌≡◌, ◌+◌, drop}
use Rattle.dex_token.specs.Faults.{first_set}
use Rattle.dex_token.proofs.rules.first_set.Given as goal

abbrev pub invariant-loop-i : goal.invariant-loop-i
invariant-loop-i l = first_set (l.start + l.i) (drop l.i l.bytes) ≡ first_set l.start l.bytes

use Rattle.std.proofs.Common.{◌≡◌}
use Rattle.dex_gate.proofs.gate.Gate.wait_turn.Given as goal

abbrev pub invariant-loop : goal.invariant-loop
invariant-loop g l = l.pass ≡ l.initial.pass

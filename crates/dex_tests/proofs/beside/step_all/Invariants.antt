use Rattle.std.proofs.Common.{◌≤◌}
use Rattle.dex_tests.proofs.beside.step_all.Given as goal

abbrev pub invariant-loop-place : goal.invariant-loop-place
invariant-loop-place l = l.market.steps ≤ l.place

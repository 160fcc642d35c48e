use Rattle.std.proofs.Common.{◌≡◌, ◌++◌, replicate, Some}
use Rattle.dex_gate.specs.declared.stage.Stage.TheVariants.{Idle}
use Rattle.dex_tests.proofs.gate.take_turns.Given as goal

abbrev pub invariant-loop : goal.invariant-loop
invariant-loop g l = record {
  gate : l.pass.gate ≡ Some l.gate;
  number : l.pass.number ≡ l.fn.number;
  stage : l.pass.stage ≡ Idle;
  next : l.pass.next ≡ l.fn.pass.next;
  until : l.pass.until ≡ l.fn.pass.until;
  mine : l.pass.mine ≡ l.fn.pass.mine ++ replicate l.counter l.number;
}

use Rattle.std.proofs.Common.{◌≡◌}
use Rattle.dex_world.proofs.Common.{AllZip}
use Rattle.dex_turns.specs.Bank.{IsGate}
use Rattle.dex_run.proofs.Common.{first_passes}
use Rattle.dex_run.proofs.building.gates_over.Given as goal

abbrev pub invariant-loop-cell : goal.invariant-loop-cell
invariant-loop-cell g l = record {
  gates : AllZip (λ cell gate. IsGate l.fn.outline.lanes (g.V.OfCell.from l.fn.outline cell) gate) l.yielded l.gates.items;
  passes : l.passes.items ≡ first_passes 1 l.gates.items;
}

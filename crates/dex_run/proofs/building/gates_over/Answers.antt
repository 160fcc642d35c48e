use Rattle.dex_turns.specs.Bank.{IsGate}
use Rattle.dex_run.proofs.Openings.{firsts-more, zip-more}
use Rattle.dex_run.proofs.building.gates_over.Goals as goal

pub loop-cell-preserved : goal.loop-cell-preserved
loop-cell-preserved g c = record {
  gates = zip-more (λ cell gate. IsGate c.args.outline.now.lanes (g.V.OfCell.from c.args.outline.now cell) gate) c.loop-cell.yielded
      c.loop-cell.gates.items c.add.new.items.items c.in-Some.cell c.in_ok-gate.gate c.loop-cell.invariant.gates c.in_ok-gate.ensures.gate c.in_ok-add.ensures;
  passes = firsts-more c.loop-cell.gates.items c.add.new.items.items c.loop-cell.passes.items c.add-in-loop-cell.new.items.items c.in_ok-gate.gate c.in_ok-gate.pass
      c.loop-cell.invariant.passes c.in_ok-gate.ensures.pass c.in_ok-add.ensures c.in_ok-add-2.ensures;
}

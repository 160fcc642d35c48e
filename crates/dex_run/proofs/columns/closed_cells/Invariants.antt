use Rattle.std.proofs.Common.{◌+◌, ◌≤◌, vec_len, vec_capacity}
use Rattle.dex_world.proofs.Common.{AllZip}
use Rattle.dex_run.proofs.Common.{CanClose, IsClosed}
use Rattle.dex_run.proofs.ColumnLists.{Completes, IsGiven}
use Rattle.dex_run.proofs.columns.closed_cells.Given as goal

abbrev pub invariant-loop-gate : goal.invariant-loop-gate
invariant-loop-gate g l = record {
  passes : AllZip (λ gate column. CanClose gate column.items) l.gates.items l.columns.items;
  values : Completes (IsGiven (IsClosed g.V.Journaled.entries g.V.Journaled.lane g.V.Journaled.origin) g.V.OfCell.kept g.V.OfCell.gives)
      l.fn.gates.items l.fn.columns.items l.gates.items l.columns.items l.cells.items;
  room : vec_len l.gates + vec_len l.cells ≤ vec_capacity l.cells;
}

abbrev pub decreases-loop-gate : goal.decreases-loop-gate
decreases-loop-gate g l = vec_len l.gates

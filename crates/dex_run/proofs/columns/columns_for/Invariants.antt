use Rattle.std.proofs.Common.{◌≤◌, vec_capacity}
use Rattle.dex_run.specs.Columns.{AreEmpty}
use Rattle.dex_run.proofs.columns.columns_for.Given as goal

abbrev pub invariant-loop : goal.invariant-loop
invariant-loop g l = record {
  columns : AreEmpty l.counter l.room l.columns.items;
  reserved : l.count ≤ vec_capacity l.columns;
}

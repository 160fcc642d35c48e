use Rattle.std.proofs.Common.{◌≡◌, ◌<◌, ◌++◌, List, length, map}
use Rattle.dex_types.specs.Rows.{PlainRow, row_of}
use Rattle.dex_batch.specs.Acting.{CanAllAct, HaveActed}
use Rattle.dex_batch.proofs.windows.work_all.Given as goal

-- rows have acted, and those that are left can
abbrev pub invariant-window : goal.invariant-window
invariant-window g l = record {
  can : CanAllAct (map row_of l.rows) l.places l.cells;
  so : (done : List PlainRow) × (done ++ map row_of l.rows ≡ map row_of l.fn.rows) × HaveActed done done l.fn.cells l.cells;
  span : 0 < l.span;
}

abbrev pub decreases-window : goal.decreases-window
decreases-window g l = length l.rows

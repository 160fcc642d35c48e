use Rattle.std.proofs.Common.{◌≡◌, ◌++◌}
use Rattle.dex_script_types.specs.RowLists.{rows_in}
use Rattle.dex_script_types.proofs.row_list.RowList.into_rows.Given as goal

abbrev pub invariant-loop-piece : goal.invariant-loop-piece
invariant-loop-piece l = l.rows.items ++ rows_in l.piece-iterator.rest.items ≡ l.fn.self

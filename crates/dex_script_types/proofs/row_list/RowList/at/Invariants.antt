use Rattle.std.proofs.Common.{◌≡◌, ◌<◌, drop, length, slice_index_or}
use Rattle.dex_types.specs.declared.rows.Row.{Row}
use Rattle.dex_script_types.specs.RowLists.{rows_in}
use Rattle.dex_script_types.proofs.row_list.RowList.at.Given as goal

abbrev pub invariant-loop-piece : goal.invariant-loop-piece
invariant-loop-piece l = record {
  within : l.left < length (rows_in (drop l.piece-index l.piece-items));
  same : (default : Row) →
      slice_index_or (rows_in (drop l.piece-index l.piece-items)) l.left default ≡ slice_index_or l.fn.self l.fn.place default;
}

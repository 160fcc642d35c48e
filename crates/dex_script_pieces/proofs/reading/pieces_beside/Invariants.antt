use Rattle.std.proofs.Common.{◌≡◌, ◌++◌, All}
use Rattle.dex_script_pieces.specs.Pieces.{IsBeside, rows_of}
use Rattle.dex_script_pieces.proofs.reading.pieces_beside.Given as goal

abbrev pub invariant-pieces : goal.invariant-pieces
invariant-pieces l = record {
  rows : rows_of l.pieces.items ++ l.left ≡ l.fn.rows;
  beside : All (IsBeside l.fn.reader) l.pieces.items;
}

use Rattle.std.proofs.Common.{◌≡◌, ◌++◌, drop, length, take}
use Rattle.std.specs.List.{flat_map}
use Rattle.dex_dump.specs.Pieces.{piece_text}
use Rattle.dex_call.proofs.writing.put_each.Given as goal

abbrev pub invariant-pieces : goal.invariant-pieces
invariant-pieces l = record {
  place : l.place ≡ length (flat_map piece_text (take l.piece-index l.pieces));
  room : l.room ≡ flat_map piece_text (take l.piece-index l.pieces) ++ drop (length (flat_map piece_text (take l.piece-index l.pieces))) l.initial.room;
}

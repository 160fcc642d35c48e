use Rattle.std.proofs.Common.{◌≡◌, length, take}
use Rattle.std.specs.List.{flat_map}
use Rattle.dex_dump.specs.Pieces.{piece_text}
use Rattle.dex_call.proofs.writing.size_of.Given as goal

abbrev pub invariant-pieces : goal.invariant-pieces
invariant-pieces l = l.size ≡ length (flat_map piece_text (take l.piece-index l.pieces))

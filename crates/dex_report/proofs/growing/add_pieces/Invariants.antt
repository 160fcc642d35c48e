use Rattle.std.proofs.Common.{◌≡◌, ◌++◌}
use Rattle.std.specs.List.{flat_map}
use Rattle.dex_dump.specs.Pieces.{piece_text, text_in}
use Rattle.dex_report.proofs.growing.add_pieces.Given as goal

abbrev pub invariant-loop-piece : goal.invariant-loop-piece
invariant-loop-piece l = text_in l.text ≡ text_in l.initial.text ++ flat_map piece_text l.yielded

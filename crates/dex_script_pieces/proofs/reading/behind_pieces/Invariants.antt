use Rattle.std.proofs.Common.{◌≡◌, Ok}
use Rattle.dex_script.specs.Pieces.{number_after}
use Rattle.dex_script.specs.Scripts.{draft_after}
use Rattle.dex_script.proofs.PieceLaws.{Stays}
use Rattle.dex_script_pieces.specs.Pieces.{rows_of}
use Rattle.dex_script_pieces.proofs.reading.behind_pieces.Given as goal

abbrev pub invariant-loop-piece : goal.invariant-loop-piece
invariant-loop-piece l = record {
  stays : Stays l.fn.reader l.reader;
  read : draft_after l.fn.reader l.fn.number (rows_of l.yielded) ≡ Ok l.reader;
  number : l.number ≡ number_after l.fn.number (rows_of l.yielded);
}

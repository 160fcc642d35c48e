use Rattle.std.proofs.Common.{◌≡◌, ◌++◌}
use Rattle.dex_report.proofs.writing.add_each.Given as goal

abbrev pub invariant-loop-piece : goal.invariant-loop-piece
invariant-loop-piece l = l.pieces.items ≡ l.initial.pieces.items ++ l.yielded

use Rattle.std.proofs.Common.{◌≡◌, ◌++◌, map}
use Rattle.dex_report.specs.declared.part.Part.TheVariants.{Rows}
use Rattle.dex_report.proofs.pieces.add_rows.Given as goal

abbrev pub invariant-loop-market : goal.invariant-loop-market
invariant-loop-market l = l.parts.items ≡ l.initial.parts.items ++ map Rows l.yielded

use Rattle.std.proofs.Common.{◌≡◌, ◌++◌, map}
use Rattle.dex_report.specs.declared.part.Part.TheVariants.{Spent}
use Rattle.dex_report.proofs.pieces.add_spent.Given as goal

abbrev pub invariant-loop-rows : goal.invariant-loop-rows
invariant-loop-rows l = l.parts.items ≡ l.initial.parts.items ++ map Spent l.yielded

use Rattle.std.proofs.Common.{◌≡◌, ◌++◌, map}
use Rattle.dex_report.specs.declared.part.Part.TheVariants.{Market}
use Rattle.dex_report.proofs.pieces.add_markets.Given as goal

abbrev pub invariant-loop-journal : goal.invariant-loop-journal
invariant-loop-journal l = l.parts.items ≡ l.initial.parts.items ++ map Market l.yielded

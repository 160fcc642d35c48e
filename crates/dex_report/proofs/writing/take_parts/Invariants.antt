use Rattle.std.proofs.Common.{All, ◌≡◌, ◌++◌}
use Rattle.std.specs.List.{flat_map}
use Rattle.dex_dump.specs.Pieces.{text_in}
use Rattle.dex_report.specs.Parts.{FitPart, part_lines}
use Rattle.dex_report.proofs.writing.take_parts.Given as goal

abbrev pub invariant-loop-part : goal.invariant-loop-part
invariant-loop-part l = record {
  text : text_in l.text ≡ text_in l.initial.text ++ flat_map part_lines l.yielded;
  fits : All FitPart l.yielded;
}

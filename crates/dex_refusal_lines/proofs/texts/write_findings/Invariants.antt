use Rattle.std.proofs.Common.{◌≡◌, ◌++◌, take}
use Rattle.std.specs.List.{flat_map}
use Rattle.std.specs.String.{string_bytes}
use Rattle.dex_refusal_lines.specs.Lines.{finding_line}
use Rattle.dex_refusal_lines.proofs.texts.write_findings.Given as goal

abbrev pub invariant-findings : goal.invariant-findings
invariant-findings l = string_bytes l.text ≡ string_bytes l.initial.text ++ flat_map finding_line (take l.finding-index l.found)

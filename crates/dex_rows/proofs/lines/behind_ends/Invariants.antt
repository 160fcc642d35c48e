use Rattle.std.proofs.Common.{◌≡◌, drop}
use Rattle.dex_rows.specs.Lines.{behind_ends}
use Rattle.dex_rows.proofs.lines.behind_ends.Given as goal

abbrev pub invariant-bytes : goal.invariant-bytes
invariant-bytes l = behind_ends (drop l.at l.text) ≡ behind_ends l.text

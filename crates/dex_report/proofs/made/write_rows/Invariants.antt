use Rattle.std.proofs.Common.{◌≡◌, ◌++◌}
use Rattle.dex_report.specs.Lines.{numbered}
use Rattle.dex_report.specs.Made.{generator_at, row_of}
use Rattle.dex_report.proofs.made.write_rows.Given as goal

abbrev pub invariant-rows : goal.invariant-rows
invariant-rows l = record {
  generator : l.generator ≡ generator_at l.number l.i;
  text : l.text.items ≡ l.initial.text.items ++ numbered (row_of l.number) l.i;
}

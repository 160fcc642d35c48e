use Rattle.std.proofs.Common.{◌≡◌, ◌++◌}
use Rattle.dex_report.specs.Lines.{numbered}
use Rattle.dex_report.specs.MadeRows.{opening_line}
use Rattle.dex_report.proofs.made.write_openings.Given as goal

abbrev pub invariant-traders : goal.invariant-traders
invariant-traders l = l.text.items ≡ l.initial.text.items ++ numbered (opening_line l.market) l.trader

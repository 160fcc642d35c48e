use Rattle.std.proofs.Common.{◌≡◌, ◌++◌}
use Rattle.std.specs.String.{string_bytes}
use Rattle.dex_report.specs.Lines.{numbered}
use Rattle.dex_report.specs.MadeSetup.{wallet_lines}
use Rattle.dex_report.proofs.made.write_wallets.Given as goal

abbrev pub invariant-traders : goal.invariant-traders
invariant-traders l = string_bytes l.text ≡ string_bytes l.initial.text ++ numbered wallet_lines l.trader

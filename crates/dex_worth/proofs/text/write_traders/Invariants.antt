use Rattle.std.proofs.Common.{◌≡◌, ◌++◌, take}
use Rattle.std.specs.List.{flat_map}
use Rattle.std.specs.String.{string_bytes}
use Rattle.dex_worth.specs.Rows.{line_of}
use Rattle.dex_worth.proofs.text.write_traders.Given as goal

abbrev pub invariant-traders : goal.invariant-traders
invariant-traders l = string_bytes l.text ≡ string_bytes l.initial.text ++ flat_map line_of (take l.row-index l.table)

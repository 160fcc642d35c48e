use Rattle.std.proofs.Common.{◌≡◌, ◌++◌, map, take}
use Rattle.std.specs.List.{flat_map}
use Rattle.std.specs.String.{string_bytes}
use Rattle.dex_types.specs.Accounts.{market_accounts_of}
use Rattle.dex_report.specs.Bulk.{market_line}
use Rattle.dex_report.proofs.bulk.write_markets.Given as goal

abbrev pub invariant-markets : goal.invariant-markets
invariant-markets l = string_bytes l.text ≡ string_bytes l.initial.text ++ flat_map market_line (map market_accounts_of (take l.market-index l.markets))

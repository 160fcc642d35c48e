use Rattle.std.proofs.Common.{◌≡◌, drop, map}
use Rattle.dex_migrate.specs.TooSmall.{first_fault}
use Rattle.dex_types.specs.Accounts.{market_accounts_of}
use Rattle.dex_migrate.proofs.too_small.first_fault.Given as goal

abbrev pub invariant-markets : goal.invariant-markets
invariant-markets l =
    first_fault l.nodes l.events (map market_accounts_of (drop l.market-index l.markets)) ≡ first_fault l.nodes l.events (map market_accounts_of l.markets)

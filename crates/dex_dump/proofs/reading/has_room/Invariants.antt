use Rattle.std.proofs.Common.{◌≡◌, drop, map}
use Rattle.dex_types.specs.Accounts.{market_accounts_of}
use Rattle.dex_dump.specs.Reading.{has_room}
use Rattle.dex_dump.proofs.reading.has_room.Given as goal

abbrev pub invariant-loop-market : goal.invariant-loop-market
invariant-loop-market l =
    has_room l.most l.address (map market_accounts_of (drop l.market-index l.markets)) ≡ has_room l.most l.address (map market_accounts_of l.markets)

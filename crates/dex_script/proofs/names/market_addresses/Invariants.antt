use Rattle.std.proofs.Common.{◌≡◌, map, take}
use Rattle.dex_script.specs.Names.{market_address}
use Rattle.dex_script.proofs.names.market_addresses.Given as goal

abbrev pub invariant-loop-market : goal.invariant-loop-market
invariant-loop-market l = l.addresses.items ≡ map market_address (take l.market-index l.markets)

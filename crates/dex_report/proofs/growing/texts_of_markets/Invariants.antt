use Rattle.std.proofs.Common.{map, take}
use Rattle.std.specs.List.{AllZip}
use Rattle.dex_types.specs.Accounts.{market_accounts_of}
use Rattle.dex_report.specs.Growing.{TellsMarket, untold_market}
use Rattle.dex_report.proofs.growing.texts_of_markets.Given as goal

abbrev pub invariant-loop-market : goal.invariant-loop-market
invariant-loop-market l = AllZip TellsMarket l.texts.items (map untold_market (map market_accounts_of (take l.market-index l.markets)))

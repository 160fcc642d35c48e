use Rattle.std.proofs.Common.{◌≡◌, map, take}
use Rattle.dex_script.specs.Pieces.{bare_market}
use Rattle.dex_script.proofs.pieces.bare_markets.Given as goal

abbrev pub invariant-loop-market : goal.invariant-loop-market
invariant-loop-market l = l.bare.items ≡ map bare_market (take l.market-index l.markets)

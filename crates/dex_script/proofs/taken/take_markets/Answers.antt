use Rattle.std.proofs.Common.{arith}
use Rattle.dex_script.proofs.MarketLaws.{market-is}
use Rattle.dex_script.proofs.taken.take_markets.Goals as goal

pub take_market-requires : goal.take_market-requires
take_market-requires c =
    market-is c.args.markets.now c.loop-place.place c.index-markets-place.result c.requires (omega arith) c.index-markets-place.is

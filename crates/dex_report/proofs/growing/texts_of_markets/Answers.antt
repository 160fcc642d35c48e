use Rattle.std.proofs.Common.{arith}
use Rattle.std.proofs.lemmas.List.Elements.{All-nil}
use Rattle.dex_types.specs.Accounts.{market_accounts_of}
use Rattle.dex_report.specs.Growing.{TellsMarket, untold_market}
use Rattle.dex_report.specs.Telling.{FitEntry}
use Rattle.dex_report.proofs.GrowLaws.{one-more-tells}
use Rattle.dex_report.proofs.growing.texts_of_markets.Goals as goal

pub loop-market-preserved : goal.loop-market-preserved
loop-market-preserved c =
    rw c.in_ok-push.ensures.items
    (one-more-tells TellsMarket untold_market market_accounts_of c.loop-market.texts.items c.args.markets.now c.loop-market.market-index c.in_ok-text.text c.market-item.result
    (omega arith) c.market-item.is c.loop-market.invariant
    (record { address = c.in_ok-text.ensures.address; count = c.in_ok-text.ensures.count; fits = All-nil FitEntry; lines = c.in_ok-text.ensures.text }))

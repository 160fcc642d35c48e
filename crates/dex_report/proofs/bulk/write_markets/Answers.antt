use Rattle.std.proofs.Common.{◌<◌, ◌∙◌, ap, length, map, subst, sym}
use Rattle.std.proofs.Math.ListN.{get_or-map, length-map}
use Rattle.std.proofs.lemmas.List.Elements.{All-get_or}
use Rattle.dex_types.specs.Accounts.{market_accounts_of}
use Rattle.dex_accounts.specs.Accepted.{IsAccepted}
use Rattle.dex_report.proofs.bulk.write_markets.Goals as goal

pub summary_of-requires : goal.summary_of-requires
summary_of-requires c =
    let accounts = map market_accounts_of c.args.markets.now in
    let here : c.markets.market-index < length accounts = rw length-map c.markets-test.true in
    subst IsAccepted (get_or-map market_accounts_of c.args.markets.now c.markets.market-index c.market-item.result ∙ ap market_accounts_of (sym c.market-item.is))
    (All-get_or IsAccepted accounts c.markets.market-index (market_accounts_of c.market-item.result) here c.requires)

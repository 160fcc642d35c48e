use Rattle.dex_accounts.specs.Accepted.{IsAccepted}
use Rattle.dex_migrate.specs.TooSmall.{Fits}
use Rattle.dex_migrate.proofs.MarketLaws.{next-of}
use Rattle.dex_types.specs.declared.account_bytes.MarketAccounts.{MarketAccounts}
use Rattle.dex_types.specs.Accounts.{market_accounts_of}
use Rattle.dex_migrate.proofs.markets.migrate_at.Goals as goal

pub migrate_market-requires-clause-accepted : goal.migrate_market-requires-clause-accepted
migrate_market-requires-clause-accepted c =
    next-of (λ (m : MarketAccounts). IsAccepted (market_accounts_of m)) c.args.markets.now c.args.place c.index-markets-place.result c.requires.within c.requires.accepted

pub migrate_market-requires-clause-fits : goal.migrate_market-requires-clause-fits
migrate_market-requires-clause-fits c =
    next-of (λ (m : MarketAccounts). Fits c.args.nodes c.args.events (market_accounts_of m)) c.args.markets.now c.args.place c.index-markets-place.result c.requires.within c.requires.fits

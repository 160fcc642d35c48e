use Rattle.dex_accounts.proofs.PartLaws.{StandsForTrader-open, trader_at-open}
use Rattle.dex_accounts.proofs.laws.an_open_account_is_its_traders.Goals as goal

pub returns-clause-trader : goal.returns-clause-trader
returns-clause-trader c = trader_at-open

pub returns-clause-stands : goal.returns-clause-stands
returns-clause-stands c = StandsForTrader-open

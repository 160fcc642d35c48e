use Rattle.dex_orders.proofs.WriteLaws.{IsOpen-funded, account_of-funded, market_of-funded}
use Rattle.dex_orders.proofs.laws.an_account_that_is_funded_has_the_funds.Goals as goal

pub returns-clause-words : goal.returns-clause-words
returns-clause-words c = account_of-funded

pub returns-clause-market : goal.returns-clause-market
returns-clause-market c = market_of-funded

pub returns-clause-accepted : goal.returns-clause-accepted
returns-clause-accepted c = IsOpen-funded

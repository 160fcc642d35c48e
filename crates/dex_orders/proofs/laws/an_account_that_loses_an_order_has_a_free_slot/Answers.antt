use Rattle.dex_orders.proofs.WriteLaws.{IsOpen-removed, account_of-removed, market_of-removed}
use Rattle.dex_orders.proofs.laws.an_account_that_loses_an_order_has_a_free_slot.Goals as goal

pub returns-clause-words : goal.returns-clause-words
returns-clause-words c = account_of-removed

pub returns-clause-market : goal.returns-clause-market
returns-clause-market c = market_of-removed

pub returns-clause-accepted : goal.returns-clause-accepted
returns-clause-accepted c = IsOpen-removed

use Rattle.dex_orders.proofs.WriteLaws.{IsOpen-added, account_of-added, market_of-added}
use Rattle.dex_orders.proofs.laws.an_account_that_gets_an_order_holds_it_in_its_slot.Goals as goal

pub returns-clause-words : goal.returns-clause-words
returns-clause-words c = account_of-added

pub returns-clause-market : goal.returns-clause-market
returns-clause-market c = market_of-added

pub returns-clause-accepted : goal.returns-clause-accepted
returns-clause-accepted c = IsOpen-added

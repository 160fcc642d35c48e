use Rattle.dex_accounts.proofs.PartLaws.{AreOf-account, AreOf-accounts, AreOf-events, AreOf-market, AreOf-requests, AreOf-side}
use Rattle.dex_accounts.proofs.laws.what_is_put_into_parts_is_put_into_their_market.Goals as goal

pub returns-clause-side : goal.returns-clause-side
returns-clause-side c = AreOf-side

pub returns-clause-events : goal.returns-clause-events
returns-clause-events c = AreOf-events

pub returns-clause-requests : goal.returns-clause-requests
returns-clause-requests c = AreOf-requests

pub returns-clause-accounts : goal.returns-clause-accounts
returns-clause-accounts c = AreOf-accounts

pub returns-clause-account : goal.returns-clause-account
returns-clause-account c = AreOf-account

pub returns-clause-market : goal.returns-clause-market
returns-clause-market c = AreOf-market

use Rattle.dex_laws.proofs.DemandLaws.{meet-budget, meet-budget_ask}
use Rattle.dex_laws.proofs.meeting.a_bid_stays_within_its_budget.Goals as goal

pub returns-clause-bid : goal.returns-clause-bid
returns-clause-bid c = meet-budget

pub returns-clause-ask : goal.returns-clause-ask
returns-clause-ask c = meet-budget_ask

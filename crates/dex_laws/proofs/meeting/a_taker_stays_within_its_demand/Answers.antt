use Rattle.dex_laws.proofs.DemandLaws.{meet-lots}
use Rattle.dex_laws.proofs.EventLaws.{meet-meets_one}
use Rattle.dex_laws.proofs.meeting.a_taker_stays_within_its_demand.Goals as goal

pub returns-clause-lots : goal.returns-clause-lots
returns-clause-lots c = meet-lots

pub returns-clause-matches : goal.returns-clause-matches
returns-clause-matches c = meet-meets_one

use Rattle.dex_laws.proofs.MovedLaws.{meet-coin, meet-pc, meet-rebates_told}
use Rattle.dex_laws.proofs.meeting.what_is_reported_is_what_moved.Goals as goal

pub returns-clause-base : goal.returns-clause-base
returns-clause-base c = meet-coin

pub returns-clause-quote : goal.returns-clause-quote
returns-clause-quote c = meet-pc

pub returns-clause-rebates : goal.returns-clause-rebates
returns-clause-rebates c = meet-rebates_told

use Rattle.dex_laws.proofs.MovedLaws.{meet-locked, meet-locked_of, meet-moved}
use Rattle.dex_laws.proofs.meeting.what_moves_was_locked.Goals as goal

pub returns-clause-all : goal.returns-clause-all
returns-clause-all c = meet-locked

pub returns-clause-of_each_owner : goal.returns-clause-of_each_owner
returns-clause-of_each_owner c = meet-locked_of

pub returns-clause-moved : goal.returns-clause-moved
returns-clause-moved c = meet-moved

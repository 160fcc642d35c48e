use Rattle.dex_laws.proofs.EndLaws.{meet-recursion, meet-again}
use Rattle.dex_laws.proofs.meeting.a_meeting_goes_on_until_nothing_is_taken.Goals as goal

pub returns-clause-recursion : goal.returns-clause-recursion
returns-clause-recursion c = meet-recursion

pub returns-clause-ends : goal.returns-clause-ends
returns-clause-ends c = meet-again

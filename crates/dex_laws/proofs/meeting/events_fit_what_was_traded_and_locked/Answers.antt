use Rattle.dex_laws.proofs.EachEventLaws.{meet-EventFits, meet-IsOfOneOf}
use Rattle.dex_laws.proofs.meeting.events_fit_what_was_traded_and_locked.Goals as goal

pub returns-clause-amounts : goal.returns-clause-amounts
returns-clause-amounts c = λ bound side t. meet-EventFits side t bound

pub returns-clause-words : goal.returns-clause-words
returns-clause-words c = meet-IsOfOneOf

use Rattle.dex_laws.proofs.LockLaws.{meet-places, post-places}
use Rattle.dex_laws.proofs.locks.a_slot_is_freed_once.Goals as goal

pub returns-clause-meeting : goal.returns-clause-meeting
returns-clause-meeting c = λ owner slot side t w orders coin pc priced. meet-places owner slot side t coin pc w orders priced

pub returns-clause-posting : goal.returns-clause-posting
returns-clause-posting c = λ owner slot sizes side room order orders some. post-places owner slot side sizes room order orders some

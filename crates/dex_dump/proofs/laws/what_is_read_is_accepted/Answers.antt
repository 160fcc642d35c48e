use Rattle.dex_dump.proofs.SoFarLaws.{dump-read, text-read}
use Rattle.dex_dump.proofs.laws.what_is_read_is_accepted.Goals as goal

pub returns-clause-alone : goal.returns-clause-alone
returns-clause-alone c = λ limits text accounts are h. let read = text-read limits are text accounts h in (read.accepted, read.held)

pub returns-clause-behind : goal.returns-clause-behind
returns-clause-behind c = λ limits rows dump are h. let read = dump-read limits are rows dump h in (read.accepted, read.held)

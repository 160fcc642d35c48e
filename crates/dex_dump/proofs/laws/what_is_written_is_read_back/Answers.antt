use Rattle.dex_dump.proofs.BackLaws.{rows-read, text-read}
use Rattle.dex_dump.proofs.laws.what_is_written_is_read_back.Goals as goal

pub returns-clause-alone : goal.returns-clause-alone
returns-clause-alone c = text-read

pub returns-clause-behind : goal.returns-clause-behind
returns-clause-behind c = rows-read

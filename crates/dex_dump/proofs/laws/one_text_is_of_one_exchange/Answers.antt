use Rattle.dex_dump.proofs.BehindLaws.{dump_text-behind}
use Rattle.dex_dump.proofs.OneText.{dump_text-injective}
use Rattle.dex_dump.proofs.laws.one_text_is_of_one_exchange.Goals as goal

pub returns-clause-alone : goal.returns-clause-alone
returns-clause-alone c = dump_text-injective

pub returns-clause-behind : goal.returns-clause-behind
returns-clause-behind c = dump_text-behind

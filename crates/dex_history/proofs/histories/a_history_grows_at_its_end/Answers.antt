use Rattle.dex_history.proofs.HistoryLaws.{IsLegal-append, IsLegal-one, market_after-append, market_after-one}
use Rattle.dex_history.proofs.histories.a_history_grows_at_its_end.Goals as goal

pub returns-clause-parts : goal.returns-clause-parts
returns-clause-parts c = IsLegal-append

pub returns-clause-one_more : goal.returns-clause-one_more
returns-clause-one_more c = IsLegal-one

pub returns-clause-after : goal.returns-clause-after
returns-clause-after c = market_after-append

pub returns-clause-after_one : goal.returns-clause-after_one
returns-clause-after_one c = market_after-one

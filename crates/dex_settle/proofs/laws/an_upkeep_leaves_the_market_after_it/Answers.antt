use Rattle.dex_settle.proofs.ModelLaws.{disable-put, sweep-put}
use Rattle.dex_settle.proofs.laws.an_upkeep_leaves_the_market_after_it.Goals as goal

pub returns-clause-sweep : goal.returns-clause-sweep
returns-clause-sweep c parts m are = sweep-put parts m are

pub returns-clause-disable : goal.returns-clause-disable
returns-clause-disable c parts m are = disable-put parts m are

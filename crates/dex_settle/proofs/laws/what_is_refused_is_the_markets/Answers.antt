use Rattle.dex_settle.proofs.ModelLaws.{close-is, disable-is, init-is, settle-is, sweep-is}
use Rattle.dex_settle.proofs.laws.what_is_refused_is_the_markets.Goals as goal

pub returns-clause-settle : goal.returns-clause-settle
returns-clause-settle c parts m request seen party are = settle-is parts m are request seen party

pub returns-clause-sweep : goal.returns-clause-sweep
returns-clause-sweep c parts m request seen are = sweep-is parts m are request seen

pub returns-clause-disable : goal.returns-clause-disable
returns-clause-disable c parts m request are = disable-is parts m are request

pub returns-clause-init : goal.returns-clause-init
returns-clause-init c parts m request address others bytes are is found = init-is parts m are request address others bytes is found

pub returns-clause-close : goal.returns-clause-close
returns-clause-close c parts m request address others bytes are is found = close-is parts m are request address others bytes is found

use Rattle.dex_dump.proofs.AloneLaws.{exactly-accepted}
use Rattle.dex_dump.proofs.laws.checks_of_a_market_hold_exactly_where_it_is_accepted.Goals as goal

pub returns : goal.returns
returns c = exactly-accepted

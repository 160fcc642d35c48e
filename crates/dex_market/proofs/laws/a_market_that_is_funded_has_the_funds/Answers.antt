use Rattle.dex_market.proofs.FundsWrites.{are-written}
use Rattle.dex_market.proofs.laws.a_market_that_is_funded_has_the_funds.Goals as goal

pub returns-clause-words : goal.returns-clause-words
returns-clause-words c = λ bytes funds market fit. (are-written funds bytes market fit).words

pub returns-clause-accepted : goal.returns-clause-accepted
returns-clause-accepted c = λ bytes funds market fit. (are-written funds bytes market fit).accepted

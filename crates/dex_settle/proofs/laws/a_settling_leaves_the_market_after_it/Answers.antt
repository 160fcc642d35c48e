use Rattle.dex_settle.proofs.PayLaws.{after-put, pays-out_all}
use Rattle.dex_settle.proofs.laws.a_settling_leaves_the_market_after_it.Goals as goal

pub returns-clause-out : goal.returns-clause-out
returns-clause-out c has_referrer account = pays-out_all has_referrer account

pub returns-clause-after : goal.returns-clause-after
returns-clause-after c plan owner bytes parts m sound are has out = after-put plan owner bytes parts m sound are has out

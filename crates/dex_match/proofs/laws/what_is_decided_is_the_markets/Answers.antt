use Rattle.std.proofs.Common.{refl}
use Rattle.dex_match.proofs.PartsLaws.{given-of, ordering-is, reason-is}
use Rattle.dex_match.proofs.laws.what_is_decided_is_the_markets.Goals as goal

pub returns-clause-ordering : goal.returns-clause-ordering
returns-clause-ordering c side n parts m bytes are has = ordering-is side n _ m (given-of side n.owner bytes parts m are has)

pub returns-clause-reason : goal.returns-clause-reason
returns-clause-reason c side n parts m bytes seen wallet sound are has pays =
    reason-is side n _ m wallet.balance seen wallet sound (given-of side n.owner bytes parts m are has) pays refl

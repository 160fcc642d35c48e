use Rattle.std.proofs.Common.{Some, sym, ap}
use Rattle.dex_types.specs.Reasons.{not_blank}
use Rattle.dex_types.specs.Trader.{Trader}
use Rattle.dex_settle.proofs.TraderLaws.{trader_of-blank}
use Rattle.dex_settle.proofs.lifecycle.not_blank.Goals as goal

pub returns-in-Blank-clause-reason : goal.returns-in-Blank-clause-reason
returns-in-Blank-clause-reason c =
    sym (ap (λ (t : Trader). not_blank (Some t)) (trader_of-blank c.args.account.now (c.state_of.ensures.blank.0 c.in-Blank.is)))

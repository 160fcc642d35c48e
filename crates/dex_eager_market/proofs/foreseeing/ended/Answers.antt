use Rattle.std.proofs.Common.{is_some, ap, ◌∙◌}
use Rattle.dex_eager_market.proofs.foreseeing.ended.Goals as goal

pub returns-clause-aborts : goal.returns-clause-aborts
returns-clause-aborts c = λ others. c.is_some.ensures ∙ ap is_some (c.aborts_at.ensures others)

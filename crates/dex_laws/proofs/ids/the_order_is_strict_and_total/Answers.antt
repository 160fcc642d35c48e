use Rattle.dex_laws.proofs.IdLaws.{precedes-irreflexive, precedes-transitive, precedes-total}
use Rattle.dex_laws.proofs.ids.the_order_is_strict_and_total.Goals as goal

pub returns-clause-irreflexive : goal.returns-clause-irreflexive
returns-clause-irreflexive c = precedes-irreflexive

pub returns-clause-transitive : goal.returns-clause-transitive
returns-clause-transitive c = precedes-transitive

pub returns-clause-total : goal.returns-clause-total
returns-clause-total c = precedes-total

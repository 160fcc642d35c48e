use Rattle.dex_laws.proofs.SideLaws.{InBookOrder-without, ids-apart}
use Rattle.dex_laws.proofs.posting.an_order_leaves_a_side_in_order.Goals as goal

pub returns-clause-in_order : goal.returns-clause-in_order
returns-clause-in_order c = InBookOrder-without

pub returns-clause-apart : goal.returns-clause-apart
returns-clause-apart c = ids-apart

use Rattle.dex_laws.proofs.PostLaws.{InBookOrder-posted, posted-insert, length-posted, total-posted}
use Rattle.dex_laws.proofs.posting.a_posted_order_stands_in_its_place.Goals as goal

pub returns-clause-in_order : goal.returns-clause-in_order
returns-clause-in_order c = InBookOrder-posted

pub returns-clause-one_more : goal.returns-clause-one_more
returns-clause-one_more c = length-posted

pub returns-clause-weight : goal.returns-clause-weight
returns-clause-weight c = total-posted

pub returns-clause-place : goal.returns-clause-place
returns-clause-place c = posted-insert

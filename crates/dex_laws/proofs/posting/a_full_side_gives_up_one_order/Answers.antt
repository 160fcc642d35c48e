use Rattle.dex_laws.proofs.PostLaws.{InBookOrder-post, length-post, post-boots, total-post}
use Rattle.dex_laws.proofs.posting.a_full_side_gives_up_one_order.Goals as goal

pub returns-clause-in_order : goal.returns-clause-in_order
returns-clause-in_order c = λ side room order orders some. InBookOrder-post side room order orders

pub returns-clause-room : goal.returns-clause-room
returns-clause-room c = length-post

pub returns-clause-boots : goal.returns-clause-boots
returns-clause-boots c = post-boots

pub returns-clause-weight : goal.returns-clause-weight
returns-clause-weight c = λ weight side room order orders some. total-post weight side room order orders

use Rattle.std.proofs.Common.{◌<◌, arith}
use Rattle.dex_types.specs.declared.orders.Order.{Order}
use Rattle.dex_laws.proofs.LeftLaws.{meet-left, InBookOrder-left, All-left, ids-left}
use Rattle.dex_laws.proofs.meeting.the_side_is_met_from_its_front.Goals as goal

pub returns-clause-left : goal.returns-clause-left
returns-clause-left c = meet-left

pub returns-clause-in_order : goal.returns-clause-in_order
returns-clause-in_order c = λ side t w orders. InBookOrder-left _ _ orders (meet-left side t w orders)

pub returns-clause-ids : goal.returns-clause-ids
returns-clause-ids c = λ side t w orders. ids-left _ orders (meet-left side t w orders)

pub returns-clause-lots_stay : goal.returns-clause-lots_stay
returns-clause-lots_stay c = λ side t w orders. All-left (λ (o : Order). 0 < o.lots) (λ order lots some_go some_stay some. omega arith) _ orders (meet-left side t w orders)

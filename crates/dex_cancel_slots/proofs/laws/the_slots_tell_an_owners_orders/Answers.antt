use Rattle.dex_cancel_slots.proofs.AnswerLaws.{told-count, told-first, told-oldest, told-orders, told-side}
use Rattle.dex_cancel_slots.proofs.laws.the_slots_tell_an_owners_orders.Goals as goal

pub returns-clause-orders : goal.returns-clause-orders
returns-clause-orders c = told-orders

pub returns-clause-count : goal.returns-clause-count
returns-clause-count c = told-count

pub returns-clause-oldest : goal.returns-clause-oldest
returns-clause-oldest c = told-oldest

pub returns-clause-side : goal.returns-clause-side
returns-clause-side c = told-side

pub returns-clause-first : goal.returns-clause-first
returns-clause-first c = told-first

use Rattle.dex_sound.proofs.FillLaws.{fees-shared, order-spends, order-gets, take-pays, take-gets, take-within}
use Rattle.dex_sound.proofs.fills.what_is_spent_is_what_fills_pay.Goals as goal

pub returns-clause-order_spends : goal.returns-clause-order_spends
returns-clause-order_spends c = order-spends

pub returns-clause-order_gets : goal.returns-clause-order_gets
returns-clause-order_gets c = order-gets

pub returns-clause-take_pays : goal.returns-clause-take_pays
returns-clause-take_pays c = take-pays

pub returns-clause-take_gets : goal.returns-clause-take_gets
returns-clause-take_gets c = take-gets

pub returns-clause-shares : goal.returns-clause-shares
returns-clause-shares c = fees-shared

pub returns-clause-take_within : goal.returns-clause-take_within
returns-clause-take_within c = take-within

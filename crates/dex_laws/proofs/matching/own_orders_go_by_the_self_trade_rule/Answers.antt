use Rattle.dex_laws.proofs.SelfTradeLaws.{meet-other_lots, meet-decrement, meet-keeps_lots, meet-abort, meet-cancel}
use Rattle.dex_laws.proofs.matching.own_orders_go_by_the_self_trade_rule.Goals as goal

pub returns-clause-fills : goal.returns-clause-fills
returns-clause-fills c = meet-other_lots

pub returns-clause-decrement : goal.returns-clause-decrement
returns-clause-decrement c = λ side t w orders rule. meet-decrement side t rule w orders

pub returns-clause-others : goal.returns-clause-others
returns-clause-others c = λ side t w orders rule. meet-keeps_lots side t rule w orders

pub returns-clause-abort : goal.returns-clause-abort
returns-clause-abort c = λ side t w orders rule. meet-abort side t rule w orders

pub returns-clause-cancel : goal.returns-clause-cancel
returns-clause-cancel c = λ side t w orders rule. meet-cancel side t rule w orders

use Rattle.std.proofs.Common.{rules}
use Rattle.dex_lent.specs.Lent.{lent_of}
use Rattle.dex_step.proofs.OrderRowLaws.{order-can, order-fits, order-stepped}
use Rattle.dex_step.proofs.acting_orders.order_row.Goals as goal

pub order_by_side-reply-requires-clause-can : goal.order_by_side-reply-requires-clause-can
order_by_side-reply-requires-clause-can g c =
    order-can (lent_of g.O.OrdersAccounts.held c.args.accounts.now) c.args.taker c.args.plan.now c.args.left c.requires.sound c.requires.decided

pub order_by_side-reply-requires-clause-vault : goal.order_by_side-reply-requires-clause-vault
order_by_side-reply-requires-clause-vault g c =
    order-fits (lent_of g.O.OrdersAccounts.held c.args.accounts.now) c.args.taker c.args.plan.now c.args.left c.requires.sound c.requires.decided

pub returns-clause-stepped : goal.returns-clause-stepped
returns-clause-stepped g c =
    order-stepped (lent_of g.O.OrdersAccounts.held c.args.accounts.now) c.args.taker c.args.plan.now c.args.left c.requires.sound c.requires.decided
    (lent_of g.O.OrdersAccounts.held c.order_by_side-reply.new.accounts) c.order_by_side-reply.result c.order_by_side-reply.ensures.does c.order_by_side-reply.ensures.vaults
    (search rules) (search rules) (search rules) (search rules)

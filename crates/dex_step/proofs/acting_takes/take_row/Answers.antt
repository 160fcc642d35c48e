use Rattle.dex_lent.specs.Lent.{lent_of}
use Rattle.dex_step.proofs.TakeRowLaws.{take-can, take-fits, take-stepped}
use Rattle.dex_step.proofs.acting_takes.take_row.Goals as goal

pub take_by_side-reply-requires-clause-can : goal.take_by_side-reply-requires-clause-can
take_by_side-reply-requires-clause-can g c =
    take-can (lent_of g.O.OrdersAccounts.held c.args.accounts.now) c.args.taker c.args.plan.now c.args.left c.requires.sound c.requires.decided

pub take_by_side-reply-requires-clause-vaults : goal.take_by_side-reply-requires-clause-vaults
take_by_side-reply-requires-clause-vaults g c =
    take-fits (lent_of g.O.OrdersAccounts.held c.args.accounts.now) c.args.taker c.args.plan.now c.args.left c.requires.sound c.requires.decided

pub returns-clause-stepped : goal.returns-clause-stepped
returns-clause-stepped g c =
    take-stepped (lent_of g.O.OrdersAccounts.held c.args.accounts.now) c.args.taker c.args.plan.now c.args.left c.requires.sound c.requires.decided
    (lent_of g.O.OrdersAccounts.held c.take_by_side-reply.new.accounts) c.take_by_side-reply.result c.take_by_side-reply.ensures.does c.take_by_side-reply.ensures.vaults
    c.take_by_side-reply.ensures.rest

use Rattle.std.proofs.Common.{refl}
use Rattle.dex_history.proofs.PriceLaws.{decoded-priced}
use Rattle.dex_lent.specs.Lent.{lent_of}
use Rattle.dex_plan.specs.Given.{asked_by}
use Rattle.dex_plan.specs.declared.plan.Plan.TheVariants as plans
use Rattle.dex_step.proofs.ApplyLaws.{first-holds, planned-as, stepped-as}
use Rattle.dex_step.proofs.applying.apply_ask.Goals as goal

pub settle_row-requires-clause-decided : goal.settle_row-requires-clause-decided
settle_row-requires-clause-decided g c =
    let of = planned-as (lent_of g.O.OrdersAccounts.held c.args.accounts.now) (asked_by c.args.ask.now) c.args.seen.now c.args.plan.now (plans.Settle c.in-Settle.paid) c.requires.sound (decoded-priced c.args.ask.now.data.now) c.requires.decided c.in-Settle.is in
    (first-holds c.args.ask.now.named.now _ c.first_named.result of c.first_named.ensures).0

pub returns-in-Settle-clause-stepped : goal.returns-in-Settle-clause-stepped
returns-in-Settle-clause-stepped g c =
    let of = planned-as (lent_of g.O.OrdersAccounts.held c.args.accounts.now) (asked_by c.args.ask.now) c.args.seen.now c.args.plan.now (plans.Settle c.in-Settle.paid) c.requires.sound (decoded-priced c.args.ask.now.data.now) c.requires.decided c.in-Settle.is in
    stepped-as _ _ _ _ _ _ _ c.settle_row.ensures.stepped (first-holds c.args.ask.now.named.now _ c.first_named.result of c.first_named.ensures).1 c.requires.pending

pub cancel_row-requires-clause-decided : goal.cancel_row-requires-clause-decided
cancel_row-requires-clause-decided g c =
    let of = planned-as (lent_of g.O.OrdersAccounts.held c.args.accounts.now) (asked_by c.args.ask.now) c.args.seen.now c.args.plan.now (plans.Cancel c.in-Cancel.what) c.requires.sound (decoded-priced c.args.ask.now.data.now) c.requires.decided c.in-Cancel.is in
    (first-holds c.args.ask.now.named.now _ c.first_named-in-Cancel.result of c.first_named-in-Cancel.ensures).0

pub returns-in-Cancel-clause-stepped : goal.returns-in-Cancel-clause-stepped
returns-in-Cancel-clause-stepped g c =
    let of = planned-as (lent_of g.O.OrdersAccounts.held c.args.accounts.now) (asked_by c.args.ask.now) c.args.seen.now c.args.plan.now (plans.Cancel c.in-Cancel.what) c.requires.sound (decoded-priced c.args.ask.now.data.now) c.requires.decided c.in-Cancel.is in
    stepped-as _ _ _ _ _ _ _ c.cancel_row.ensures.stepped (first-holds c.args.ask.now.named.now _ c.first_named-in-Cancel.result of c.first_named-in-Cancel.ensures).1 c.requires.pending

pub close_row-requires-clause-decided : goal.close_row-requires-clause-decided
close_row-requires-clause-decided g c =
    let of = planned-as (lent_of g.O.OrdersAccounts.held c.args.accounts.now) (asked_by c.args.ask.now) c.args.seen.now c.args.plan.now (plans.Close) c.requires.sound (decoded-priced c.args.ask.now.data.now) c.requires.decided c.in-Close.is in
    (first-holds c.args.ask.now.named.now _ c.first_named-in-Close.result of c.first_named-in-Close.ensures).0

pub returns-in-Close-clause-stepped : goal.returns-in-Close-clause-stepped
returns-in-Close-clause-stepped g c =
    let of = planned-as (lent_of g.O.OrdersAccounts.held c.args.accounts.now) (asked_by c.args.ask.now) c.args.seen.now c.args.plan.now (plans.Close) c.requires.sound (decoded-priced c.args.ask.now.data.now) c.requires.decided c.in-Close.is in
    stepped-as _ _ _ _ _ _ _ c.close_row.ensures.stepped (first-holds c.args.ask.now.named.now _ c.first_named-in-Close.result of c.first_named-in-Close.ensures).1 c.requires.pending

pub init_row-requires-clause-decided : goal.init_row-requires-clause-decided
init_row-requires-clause-decided g c =
    let of = planned-as (lent_of g.O.OrdersAccounts.held c.args.accounts.now) (asked_by c.args.ask.now) c.args.seen.now c.args.plan.now (plans.Init) c.requires.sound (decoded-priced c.args.ask.now.data.now) c.requires.decided c.in-Init.is in
    (first-holds c.args.ask.now.named.now _ c.first_named-in-Init.result of c.first_named-in-Init.ensures).0

pub returns-in-Init-clause-stepped : goal.returns-in-Init-clause-stepped
returns-in-Init-clause-stepped g c =
    let of = planned-as (lent_of g.O.OrdersAccounts.held c.args.accounts.now) (asked_by c.args.ask.now) c.args.seen.now c.args.plan.now (plans.Init) c.requires.sound (decoded-priced c.args.ask.now.data.now) c.requires.decided c.in-Init.is in
    stepped-as _ _ _ _ _ _ _ c.init_row.ensures.stepped (first-holds c.args.ask.now.named.now _ c.first_named-in-Init.result of c.first_named-in-Init.ensures).1 c.requires.pending

pub order_row-requires-clause-decided : goal.order_row-requires-clause-decided
order_row-requires-clause-decided g c = (planned-as (lent_of g.O.OrdersAccounts.held c.args.accounts.now) (asked_by c.args.ask.now) c.args.seen.now c.args.plan.now (plans.Order c.in-Order.taker c.in-Order.plan c.in-Order.left) c.requires.sound (decoded-priced c.args.ask.now.data.now) c.requires.decided c.in-Order.is).0

pub returns-in-Order-clause-stepped : goal.returns-in-Order-clause-stepped
returns-in-Order-clause-stepped g c =
    let of = planned-as (lent_of g.O.OrdersAccounts.held c.args.accounts.now) (asked_by c.args.ask.now) c.args.seen.now c.args.plan.now (plans.Order c.in-Order.taker c.in-Order.plan c.in-Order.left) c.requires.sound (decoded-priced c.args.ask.now.data.now) c.requires.decided c.in-Order.is in
    stepped-as _ _ _ _ _ _ _ c.order_row.ensures.stepped of.1 refl

pub take_row-requires-clause-decided : goal.take_row-requires-clause-decided
take_row-requires-clause-decided g c = (planned-as (lent_of g.O.OrdersAccounts.held c.args.accounts.now) (asked_by c.args.ask.now) c.args.seen.now c.args.plan.now (plans.Take c.in-Take.taker c.in-Take.plan c.in-Take.left) c.requires.sound (decoded-priced c.args.ask.now.data.now) c.requires.decided c.in-Take.is).0

pub returns-in-Take-clause-stepped : goal.returns-in-Take-clause-stepped
returns-in-Take-clause-stepped g c =
    let of = planned-as (lent_of g.O.OrdersAccounts.held c.args.accounts.now) (asked_by c.args.ask.now) c.args.seen.now c.args.plan.now (plans.Take c.in-Take.taker c.in-Take.plan c.in-Take.left) c.requires.sound (decoded-priced c.args.ask.now.data.now) c.requires.decided c.in-Take.is in
    stepped-as _ _ _ _ _ _ _ c.take_row.ensures.stepped of.1 refl

pub returns-in-Disable-clause-stepped : goal.returns-in-Disable-clause-stepped
returns-in-Disable-clause-stepped g c =
    let of = planned-as (lent_of g.O.OrdersAccounts.held c.args.accounts.now) (asked_by c.args.ask.now) c.args.seen.now c.args.plan.now (plans.Disable) c.requires.sound (decoded-priced c.args.ask.now.data.now) c.requires.decided c.in-Disable.is in
    stepped-as _ _ _ _ _ _ _ c.disable_row.ensures.stepped of.1 c.requires.pending

pub sweep_row-requires-clause-decided : goal.sweep_row-requires-clause-decided
sweep_row-requires-clause-decided g c =
    (planned-as (lent_of g.O.OrdersAccounts.held c.args.accounts.now) (asked_by c.args.ask.now) c.args.seen.now c.args.plan.now (plans.Sweep c.in-Sweep.fees) c.requires.sound (decoded-priced c.args.ask.now.data.now) c.requires.decided c.in-Sweep.is).0

pub returns-in-Sweep-clause-stepped : goal.returns-in-Sweep-clause-stepped
returns-in-Sweep-clause-stepped g c =
    let of = planned-as (lent_of g.O.OrdersAccounts.held c.args.accounts.now) (asked_by c.args.ask.now) c.args.seen.now c.args.plan.now (plans.Sweep c.in-Sweep.fees) c.requires.sound (decoded-priced c.args.ask.now.data.now) c.requires.decided c.in-Sweep.is in
    stepped-as _ _ _ _ _ _ _ c.sweep_row.ensures.stepped of.1 c.requires.pending

pub returns-in-Consume-clause-stepped : goal.returns-in-Consume-clause-stepped
returns-in-Consume-clause-stepped g c =
    let of = planned-as (lent_of g.O.OrdersAccounts.held c.args.accounts.now) (asked_by c.args.ask.now) c.args.seen.now c.args.plan.now (plans.Consume c.in-Consume.limit) c.requires.sound (decoded-priced c.args.ask.now.data.now) c.requires.decided c.in-Consume.is in
    stepped-as _ _ _ _ _ _ _ c.consume_row.ensures.stepped of refl

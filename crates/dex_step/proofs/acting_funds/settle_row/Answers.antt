use Rattle.std.proofs.Common.{◌+◌, refl, rules}
use Rattle.dex_lent.specs.Lent.{lent_of}
use Rattle.dex_step.proofs.FundLaws.{holds-less, settle-can, settle-coin, settle-fits, settle-pc, settle-stepped}
use Rattle.dex_step.proofs.acting_funds.settle_row.Goals as goal

pub settle-requires : goal.settle-requires
settle-requires g c =
    let can = settle-can (lent_of g.O.OrdersAccounts.held c.args.accounts.now) c.args.plan.now c.args.owner c.requires.sound c.requires.decided in
    search (rules, can)

pub take_out-requires-clause-held : goal.take_out-requires-clause-held
take_out-requires-clause-held g c =
    let held = settle-coin (lent_of g.O.OrdersAccounts.held c.args.accounts.now) c.args.plan.now c.args.owner c.requires.sound c.requires.decided in
    search (rules, held)

pub overflow_add-plan : goal.overflow_add-plan
overflow_add-plan g c =
    let fits = settle-fits (lent_of g.O.OrdersAccounts.held c.args.accounts.now) c.args.plan.now c.args.owner c.requires.sound c.requires.decided in
    search (rules, fits)

pub take_out-requires-2-clause-held : goal.take_out-requires-2-clause-held
take_out-requires-2-clause-held g c =
    let held = settle-pc (lent_of g.O.OrdersAccounts.held c.args.accounts.now) c.args.plan.now c.args.owner c.requires.sound c.requires.decided in
    search (rules, held)

pub returns-clause-stepped : goal.returns-clause-stepped
returns-clause-stepped g c =
    let old = c.args.accounts.now in
    let did = c.settle in
    settle-stepped (lent_of g.O.OrdersAccounts.held old) c.args.plan.now c.args.owner c.requires.sound c.requires.decided _
    did.ensures.does
    (record {
      address = refl;
      authority = refl;
      coin_vault = holds-less _ old.coin_vault.now _ _ c.args.plan.now.coin c.take_out.ensures (search rules) refl;
      pc_vault = holds-less _ old.pc_vault.now _ _ (c.args.plan.now.pc + c.args.plan.now.referrer) c.take_out-2.ensures (search rules) refl;
    })
    refl refl refl refl

use Rattle.std.proofs.Common.{◌∙◌, sym, subst}
use Rattle.dex_lent.specs.Lent.{lent_of}
use Rattle.dex_plan.specs.Given.{SeesEachOnce}
use Rattle.dex_process.proofs.ActLaws as laws
use Rattle.dex_process.proofs.processing.process.Goals as goal
use Rattle.dex_process.specs.Process.{Acting, HasProcessed, acting, step_of}
use Rattle.dex_purse.specs.Purse.{purse_of}
use Rattle.dex_types.specs.declared.replies.Reply.TheVariants.{Refused}
use Rattle.dex_types.specs.declared.rows.Seen.{Seen}

pub decide_ask-requires-clause-sees : goal.decide_ask-requires-clause-sees
decide_ask-requires-clause-sees g c =
    subst SeesEachOnce (sym c.see-seen.ensures)
    (laws.sees-once c.args.ask.now c.args.roles.now c.args.terms.now (purse_of c.args.wallets.now) c.requires.apart)

pub returns-in-Ok-clause-processed : goal.returns-in-Ok-clause-processed
returns-in-Ok-clause-processed g c =
    let on : Acting = acting (lent_of g.O.OrdersAccounts.held c.args.market.now) (purse_of c.args.wallets.now) c.args.pending.now in
    let after : Acting = acting (lent_of g.O.OrdersAccounts.held c.carry_out.new.market) (purse_of c.carry_out.new.wallets) c.carry_out.new.pending in
    subst (λ (s : Seen). HasProcessed c.args.roles.now c.carry_out.result on after (step_of c.args.ask.now s on.accounts)) c.see-seen.ensures
    (laws.processed c.args.ask.now c.args.roles.now c.see-seen.result c.in-Ok.plan c.carry_out.result on after (sym c.in-Ok.is ∙ c.decide_ask.ensures)
    c.carry_out.ensures.acted)

pub returns-in-Err-clause-processed : goal.returns-in-Err-clause-processed
returns-in-Err-clause-processed g c =
    let on : Acting = acting (lent_of g.O.OrdersAccounts.held c.args.market.now) (purse_of c.args.wallets.now) c.args.pending.now in
    subst (λ (s : Seen). HasProcessed c.args.roles.now (Refused c.in-Err.why) on on (step_of c.args.ask.now s on.accounts)) c.see-seen.ensures
    (laws.refused-processed c.args.ask.now c.args.roles.now c.see-seen.result c.in-Err.why on c.requires.sound c.requires.pending
    (sym c.decide_ask.ensures ∙ c.in-Err.is))

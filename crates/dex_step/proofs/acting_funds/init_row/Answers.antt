use Rattle.std.proofs.Common.{refl, rules}
use Rattle.dex_lent.specs.Lent.{lent_of}
use Rattle.dex_step.proofs.FundLaws.{init-can, init-stepped}
use Rattle.dex_step.proofs.SoundParts.{vaults-kept}
use Rattle.dex_step.proofs.acting_funds.init_row.Goals as goal

pub init-requires : goal.init-requires
init-requires g c =
    let can = init-can c.args.owner c.args.signer (lent_of g.O.OrdersAccounts.held c.args.accounts.now) c.requires.sound c.requires.decided in
    search (rules, can)

pub returns-clause-stepped : goal.returns-clause-stepped
returns-clause-stepped g c =
    let old = c.args.accounts.now in
    let did = c.init in
    init-stepped (lent_of g.O.OrdersAccounts.held old) _ c.requires.sound refl refl refl refl c.args.owner c.args.signer c.requires.decided
    did.ensures.does
    refl
    (vaults-kept (lent_of g.O.OrdersAccounts.held old) _ c.requires.sound refl refl refl refl)

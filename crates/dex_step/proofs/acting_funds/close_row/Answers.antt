use Rattle.std.proofs.Common.{refl, rules}
use Rattle.dex_lent.specs.Lent.{lent_of}
use Rattle.dex_step.proofs.FundLaws.{close-can, close-stepped}
use Rattle.dex_step.proofs.SoundParts.{vaults-kept}
use Rattle.dex_step.proofs.acting_funds.close_row.Goals as goal

pub close-requires : goal.close-requires
close-requires g c =
    let can = close-can c.args.owner (lent_of g.O.OrdersAccounts.held c.args.accounts.now) c.requires.sound c.requires.decided in
    search (rules, can)

pub returns-clause-stepped : goal.returns-clause-stepped
returns-clause-stepped g c =
    let old = c.args.accounts.now in
    let did = c.close in
    close-stepped (lent_of g.O.OrdersAccounts.held old) _ c.requires.sound refl refl refl refl c.args.owner c.requires.decided
    did.ensures.does
    refl
    (vaults-kept (lent_of g.O.OrdersAccounts.held old) _ c.requires.sound refl refl refl refl)

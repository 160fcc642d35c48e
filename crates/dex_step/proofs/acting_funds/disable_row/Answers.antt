use Rattle.std.proofs.Common.{refl}
use Rattle.dex_lent.specs.Lent.{lent_of}
use Rattle.dex_step.proofs.FundLaws.{disable-stepped}
use Rattle.dex_step.proofs.SoundParts.{vaults-kept}
use Rattle.dex_step.proofs.acting_funds.disable_row.Goals as goal

pub returns-clause-stepped : goal.returns-clause-stepped
returns-clause-stepped g c =
    let old = c.args.accounts.now in
    let did = c.disable_on_bytes in
    disable-stepped (lent_of g.O.OrdersAccounts.held old) _ c.requires.sound refl refl refl refl c.requires.decided
    did.ensures
    refl
    (vaults-kept (lent_of g.O.OrdersAccounts.held old) _ c.requires.sound refl refl refl refl)

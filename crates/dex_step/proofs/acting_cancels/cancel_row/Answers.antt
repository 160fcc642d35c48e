use Rattle.std.proofs.Common.{refl, rules}
use Rattle.dex_cancel.specs.Cancelling.{named_by}
use Rattle.dex_lent.specs.Lent.{lent_of}
use Rattle.dex_step.proofs.CancelRowLaws.{cancel-among, cancel-stepped}
use Rattle.dex_step.proofs.SoundParts.{vaults-kept}
use Rattle.dex_step.proofs.acting_cancels.cancel_row.Goals as goal

pub cancel-count-requires : goal.cancel-count-requires
cancel-count-requires g c =
    cancel-among (lent_of g.O.OrdersAccounts.held c.args.accounts.now) (named_by c.args.what.now) c.args.owner c.sizes_in-sizes.result c.requires.sound c.requires.decided (search rules)

pub returns-clause-stepped : goal.returns-clause-stepped
returns-clause-stepped g c =
    let old = c.args.accounts.now in
    let did = c.cancel-count in
    cancel-stepped (lent_of g.O.OrdersAccounts.held old) (named_by c.args.what.now) c.args.owner c.sizes_in-sizes.result c.requires.sound c.requires.decided (search rules)
    _ did.result did.ensures.does
    (vaults-kept (lent_of g.O.OrdersAccounts.held old) _ c.requires.sound refl refl refl refl)
    refl refl did.ensures.held

use Rattle.std.proofs.Common.{refl, rules}
use Rattle.dex_lent.specs.Lent.{lent_of}
use Rattle.dex_step.proofs.FundLaws.{holds-less, sweep-held, sweep-stepped}
use Rattle.dex_step.proofs.SoundParts.{held-same}
use Rattle.dex_step.proofs.acting_funds.sweep_row.Goals as goal

pub take_out-requires-clause-held : goal.take_out-requires-clause-held
take_out-requires-clause-held g c =
    let held = sweep-held c.args.fees (lent_of g.O.OrdersAccounts.held c.args.accounts.now) c.requires.sound c.requires.decided in
    search (rules, held)

pub returns-clause-stepped : goal.returns-clause-stepped
returns-clause-stepped g c =
    let old = c.args.accounts.now in
    let did = c.sweep_on_bytes in
    sweep-stepped (lent_of g.O.OrdersAccounts.held old) _ c.requires.sound refl refl refl refl c.args.fees c.requires.decided
    did.ensures
    refl
    (record {
      address = refl;
      authority = refl;
      coin_vault = held-same old.coin_vault.now old.coin_vault.now c.requires.sound.stands.coin_vault.accepted refl;
      pc_vault = holds-less _ old.pc_vault.now _ _ c.args.fees c.take_out.ensures (search rules) refl;
    })

use Rattle.std.proofs.Common.{refl, rules}
use Rattle.dex_lent.specs.Lent.{lent_of}
use Rattle.dex_step.proofs.ConsumeRowLaws.{consume-can, consume-stepped}
use Rattle.dex_step.proofs.SoundParts.{vaults-kept}
use Rattle.dex_step.proofs.acting_events.consume_row.Goals as goal

pub consume_on_bytes-consumed-requires : goal.consume_on_bytes-consumed-requires
consume_on_bytes-consumed-requires g c =
    let can = consume-can (lent_of g.O.OrdersAccounts.held c.args.accounts.now) c.args.limit c.args.named.now c.args.pending.now c.requires.sound c.requires.sums in
    search (rules, can)

pub returns-clause-stepped : goal.returns-clause-stepped
returns-clause-stepped g c =
    let old = c.args.accounts.now in
    let did = c.consume_on_bytes-consumed in
    consume-stepped (lent_of g.O.OrdersAccounts.held old) c.args.limit c.args.named.now c.args.pending.now c.requires.sound c.requires.sums
    _ c.consume_on_bytes-consumed.result _
    did.ensures.does
    (vaults-kept (lent_of g.O.OrdersAccounts.held old) _ c.requires.sound refl refl refl refl)
    refl refl refl refl refl refl

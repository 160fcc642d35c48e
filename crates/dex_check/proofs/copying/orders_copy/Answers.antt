use Rattle.std.proofs.Common.{◌∙◌, ◌*◌, length, drop, ap, arith}
use Rattle.std.proofs.lemmas.List.{length-drop, length-take-le, take_all}
use Rattle.dex_lent.specs.Flat.{account_in, accounts_in}
use Rattle.dex_lent.proofs.FlatLaws.{length-in}
use Rattle.dex_check.proofs.CopyLaws.{copied-more}
use Rattle.dex_check.proofs.copying.orders_copy.Goals as goal

pub account_copy-requires : goal.account_copy-requires
account_copy-requires c =
    let rest = drop (3260 * c.loop-place.place) c.args.bytes.now in
    ap length c.record_at.ensures ∙ length-take-le 3260 rest (omega (arith, length-drop (3260 * c.loop-place.place) c.args.bytes.now))

pub loop-place-preserved : goal.loop-place-preserved
loop-place-preserved c =
    copied-more c.args.bytes.now c.loop-place.place c.loop-place.copies.items c.add.new.items.items c.in_ok-copy.copy (omega (arith, length-in c.args.bytes.now))
    c.in_ok-add.ensures c.loop-place.invariant (c.in_ok-copy.ensures ∙ ap account_in c.record_at.ensures)

pub returns-clause-copy : goal.returns-clause-copy
returns-clause-copy c =
    c.loop-place.invariant ∙ take_all c.loop-place.place (accounts_in c.args.bytes.now) (omega (arith, length-in c.args.bytes.now))

use Rattle.std.proofs.Common.{ap, ◌∙◌}
use Rattle.dex_fields.specs.Bytes.{number_in}
use Rattle.dex_cancel_slots.proofs.TakenLaws.{id-of}
use Rattle.dex_cancel_slots.proofs.taken.id_at.Goals as goal

pub returns : goal.returns
returns c =
    let bytes = c.args.orders.now.bytes.now in
    id-of bytes c.args.slot c.requires.slot c.get_u128.result (c.get_u128.ensures ∙ ap (number_in bytes) c.item.ensures)

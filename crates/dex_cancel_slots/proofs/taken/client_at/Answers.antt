use Rattle.std.proofs.Common.{ap, ◌∙◌}
use Rattle.dex_fields.specs.Bytes.{number_in}
use Rattle.dex_cancel_slots.proofs.TakenLaws.{client-of}
use Rattle.dex_cancel_slots.proofs.taken.client_at.Goals as goal

pub returns : goal.returns
returns c =
    let bytes = c.args.orders.now.bytes.now in
    client-of bytes c.args.slot c.requires.slot c.get_u64.result (c.get_u64.ensures ∙ ap (number_in bytes) c.item.ensures)

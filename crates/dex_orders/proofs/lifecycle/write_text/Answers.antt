use Rattle.std.proofs.Common.{arith}
use Rattle.dex_fields.proofs.Writing.{put_mid-is_with_bytes}
use Rattle.dex_orders.proofs.lifecycle.write_text.Goals as goal

pub returns : goal.returns
returns c =
    put_mid-is_with_bytes c.args.bytes.now c.args.field c.args.text.now _ _ c.requires.within c.requires.whole (omega arith) c.copy_from_slice.ensures.after

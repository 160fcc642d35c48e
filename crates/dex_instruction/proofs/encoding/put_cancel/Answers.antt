use Rattle.std.proofs.Common.{[], ◌∷◌, List, ap, ◌∙◌, arith}
use Rattle.byteorder.specs.Endian.{little_bytes}
use Rattle.dex_instruction.specs.Codes.{side_code}
use Rattle.dex_instruction.specs.Numbers.{Field}
use Rattle.dex_instruction.proofs.Writing.{behind_number, last_number}
use Rattle.dex_instruction.proofs.encoding.put_cancel.Goals as goal

pub returns-clause-bytes : goal.returns-clause-bytes
returns-clause-bytes c =
    let id : List Field = (16, c.args.order_id) ∷ [] in
    let end = c.put.new.out in
    let side_bytes = c.to_le_bytes.ensures ∙ ap (little_bytes 4) c.side_code.ensures in
    let from_id = last_number c.put-at.result 16 c.args.order_id _ c.put-at.new.out end c.to_le_bytes-2.ensures c.put.ensures.bytes in
    behind_number 5 c.put-at.result 4 (side_code c.args.side) id _ c.args.out.now c.put-at.new.out end (omega arith) c.put-at.ensures.end side_bytes c.put-at.ensures.bytes from_id

use Rattle.std.proofs.Common.{[], ◌∷◌, List, ap, ◌∙◌, arith}
use Rattle.byteorder.specs.Endian.{little_bytes}
use Rattle.dex_instruction.specs.Codes.{side_code}
use Rattle.dex_instruction.specs.Numbers.{Field}
use Rattle.dex_instruction.proofs.Writing.{behind_number, last_number}
use Rattle.dex_instruction.proofs.encoding.put_terms.Goals as goal

pub returns-clause-bytes : goal.returns-clause-bytes
returns-clause-bytes c =
    let pc : List Field = (8, c.args.pc) ∷ [] in
    let lots : List Field = (8, c.args.lots) ∷ pc in
    let price : List Field = (8, c.args.price) ∷ lots in
    let end = c.put.new.out in
    let side_bytes = c.to_le_bytes.ensures ∙ ap (little_bytes 4) c.side_code.ensures in
    let from_pc = last_number c.put-at-3.result 8 c.args.pc _ c.put-at-3.new.out end c.to_le_bytes-4.ensures c.put.ensures.bytes in
    let from_lots = behind_number c.put-at-2.result c.put-at-3.result 8 c.args.lots pc _ c.put-at-2.new.out c.put-at-3.new.out end (omega arith) c.put-at-3.ensures.end c.to_le_bytes-3.ensures c.put-at-3.ensures.bytes from_pc in
    let from_price = behind_number c.put-at.result c.put-at-2.result 8 c.args.price lots _ c.put-at.new.out c.put-at-2.new.out end (omega arith) c.put-at-2.ensures.end c.to_le_bytes-2.ensures c.put-at-2.ensures.bytes from_lots in
    behind_number 5 c.put-at.result 4 (side_code c.args.side) price _ c.args.out.now c.put-at.new.out end (omega arith) c.put-at.ensures.end side_bytes c.put-at.ensures.bytes from_price

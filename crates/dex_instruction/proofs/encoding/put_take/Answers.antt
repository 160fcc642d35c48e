use Rattle.std.proofs.Common.{[], ◌∷◌, List, arith}
use Rattle.dex_instruction.specs.Numbers.{Field}
use Rattle.dex_instruction.proofs.Writing.{behind_number, last_number}
use Rattle.dex_instruction.proofs.encoding.put_take.Goals as goal

pub returns-clause-bytes : goal.returns-clause-bytes
returns-clause-bytes c =
    let limit : List Field = (2, c.args.limit) ∷ [] in
    let least_pc : List Field = (8, c.args.least_pc) ∷ limit in
    let end = c.put.new.out in
    let from_limit = last_number c.put-at-2.result 2 c.args.limit _ c.put-at-2.new.out end c.to_le_bytes-3.ensures c.put.ensures.bytes in
    let from_pc = behind_number c.put-at.result c.put-at-2.result 8 c.args.least_pc limit _ c.put-at.new.out c.put-at-2.new.out end (omega arith) c.put-at-2.ensures.end c.to_le_bytes-2.ensures c.put-at-2.ensures.bytes from_limit in
    behind_number 33 c.put-at.result 8 c.args.least_lots least_pc _ c.args.out.now c.put-at.new.out end (omega arith) c.put-at.ensures.end c.to_le_bytes.ensures c.put-at.ensures.bytes from_pc

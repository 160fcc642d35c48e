use Rattle.std.proofs.Common.{◌∷◌, List, ap, ◌∙◌, arith}
use Rattle.byteorder.specs.Endian.{little_bytes}
use Rattle.dex_instruction.specs.Codes.{self_trade_code, order_type_code}
use Rattle.dex_instruction.specs.Numbers.{Field}
use Rattle.dex_instruction.specs.Spelling.{latest_fields}
use Rattle.dex_instruction.proofs.Writing.{behind_number}
use Rattle.dex_instruction.proofs.encoding.put_order.Goals as goal

pub returns-clause-bytes : goal.returns-clause-bytes
returns-clause-bytes c =
    let latest : List Field = latest_fields c.args.latest in
    let limit : List Field = (2, c.args.limit) ∷ latest in
    let client : List Field = (8, c.args.client) ∷ limit in
    let order_type : List Field = (4, order_type_code c.args.order_type) ∷ client in
    let end = c.put_latest.new.out in
    let self_trade_bytes = c.to_le_bytes.ensures ∙ ap (little_bytes 4) c.self_trade_code.ensures in
    let order_type_bytes = c.to_le_bytes-2.ensures ∙ ap (little_bytes 4) c.order_type_code.ensures in
    let from_limit = behind_number c.put-at-3.result 51 2 c.args.limit latest _ c.put-at-3.new.out c.put.new.out end (omega arith) (omega arith) c.to_le_bytes-4.ensures c.put.ensures.bytes c.put_latest.ensures.bytes in
    let from_client = behind_number c.put-at-2.result c.put-at-3.result 8 c.args.client limit _ c.put-at-2.new.out c.put-at-3.new.out end (omega arith) c.put-at-3.ensures.end c.to_le_bytes-3.ensures c.put-at-3.ensures.bytes from_limit in
    let from_order_type = behind_number c.put-at.result c.put-at-2.result 4 (order_type_code c.args.order_type) client _ c.put-at.new.out c.put-at-2.new.out end (omega arith) c.put-at-2.ensures.end order_type_bytes c.put-at-2.ensures.bytes from_client in
    behind_number 33 c.put-at.result 4 (self_trade_code c.args.self_trade) order_type _ c.args.out.now c.put-at.new.out end (omega arith) c.put-at.ensures.end self_trade_bytes c.put-at.ensures.bytes from_order_type

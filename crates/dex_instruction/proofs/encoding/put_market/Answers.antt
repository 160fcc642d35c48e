use Rattle.std.proofs.Common.{[], ◌∷◌, List, arith}
use Rattle.dex_instruction.specs.Numbers.{Field}
use Rattle.dex_instruction.proofs.Writing.{behind_number, last_number}
use Rattle.dex_instruction.proofs.encoding.put_market.Goals as goal

pub returns-clause-bytes : goal.returns-clause-bytes
returns-clause-bytes c =
    let dust : List Field = (8, c.args.dust) ∷ [] in
    let nonce : List Field = (8, c.args.nonce) ∷ dust in
    let fee : List Field = (2, c.args.fee_rate_bps) ∷ nonce in
    let pc : List Field = (8, c.args.pc_lot) ∷ fee in
    let end = c.put.new.out in
    let from_dust = last_number c.put-at-4.result 8 c.args.dust _ c.put-at-4.new.out end c.to_le_bytes-5.ensures c.put.ensures.bytes in
    let from_nonce = behind_number c.put-at-3.result c.put-at-4.result 8 c.args.nonce dust _ c.put-at-3.new.out c.put-at-4.new.out end (omega arith) c.put-at-4.ensures.end c.to_le_bytes-4.ensures c.put-at-4.ensures.bytes from_dust in
    let from_fee = behind_number c.put-at-2.result c.put-at-3.result 2 c.args.fee_rate_bps nonce _ c.put-at-2.new.out c.put-at-3.new.out end (omega arith) c.put-at-3.ensures.end c.to_le_bytes-3.ensures c.put-at-3.ensures.bytes from_nonce in
    let from_pc = behind_number c.put-at.result c.put-at-2.result 8 c.args.pc_lot fee _ c.put-at.new.out c.put-at-2.new.out end (omega arith) c.put-at-2.ensures.end c.to_le_bytes-2.ensures c.put-at-2.ensures.bytes from_fee in
    behind_number 5 c.put-at.result 8 c.args.coin_lot pc _ c.args.out.now c.put-at.new.out end (omega arith) c.put-at.ensures.end c.to_le_bytes.ensures c.put-at.ensures.bytes from_pc

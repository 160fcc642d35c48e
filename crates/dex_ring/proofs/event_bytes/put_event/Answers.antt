use Rattle.std.proofs.Common.{rules, ◌≡◌, List, [], ◌∷◌, ℕ, drop, length, sym, ap, ◌∙◌, arith}
use Rattle.std.specs.List.{concat}
use Rattle.dex_fields.specs.declared.event.TheConstants.{FLAGS, OWNER_SLOT, FEE_TIER, NATIVE_QTY_RELEASED, NATIVE_QTY_PAID, NATIVE_FEE_OR_REBATE, ORDER_ID, OWNER, CLIENT_ORDER_ID}
use Rattle.dex_fields.specs.Bytes.{bytes_of_number, set_from}
use Rattle.dex_fields.proofs.Reading.{length-bytes_in}
use Rattle.dex_ring.specs.declared.event_bytes.TheConstants.{PADDING_END, PADDING_FRONT}
use Rattle.dex_ring.specs.EventBytes.{event_bytes, event_of, event_parts}
use Rattle.dex_ring.proofs.EventLaw.{IsFitting, event_of-event_bytes, length-event_bytes}
use Rattle.dex_ring.proofs.Parts.{all_written, number_written, part_written, set_from-all}
use Rattle.dex_ring.proofs.event_bytes.put_event.Goals as goal

fits : (c : goal.After-slice_known-12-1) → IsFitting c.args.event.now
fits c = record {
  flags = search rules;
  slot = search rules;
  tier = search rules;
  released = search rules;
  paid = search rules;
  fee_or_rebate = search rules;
  id = search rules;
  owner = ap length (sym c.put_addr.ensures.given) ∙ length-bytes_in c.put_addr.new.bytes OWNER (omega arith);
  client = search rules;
}

-- the parts after the first `k`
abbrev behind : (c : goal.After-slice_known-12-1) → ℕ → List ℕ
behind c k = concat (drop k (event_parts c.args.event.now))

-- the puts, one after another
puts : (c : goal.After-slice_known-12-1) → set_from c.args.bytes.now 0 (event_bytes c.args.event.now) ≡ c.put_u64-4.new.bytes
unfolding event_bytes bytes_of_number
puts c =
    let e = c.args.event.now in
    let end = c.put_u64-4.new.bytes in
    let client = number_written c.put_addr.new.bytes end end CLIENT_ORDER_ID e.client [] c.put_u64-4.ensures.bytes (all_written end 88) in
    let owner = part_written c.put_u128.new.bytes c.put_addr.new.bytes end OWNER e.owner.0 (behind c 9) c.put_addr.ensures.bytes (fits c).owner client in
    let id = number_written c.put_u64-3.new.bytes c.put_u128.new.bytes end ORDER_ID e.id (behind c 8) c.put_u128.ensures.bytes owner in
    let fee = number_written c.put_u64-2.new.bytes c.put_u64-3.new.bytes end NATIVE_FEE_OR_REBATE e.fee_or_rebate (behind c 7) c.put_u64-3.ensures.bytes id in
    let paid = number_written c.put_u64.new.bytes c.put_u64-2.new.bytes end NATIVE_QTY_PAID e.paid (behind c 6) c.put_u64-2.ensures.bytes fee in
    let released = number_written c.put_u8-4.new.bytes c.put_u64.new.bytes end NATIVE_QTY_RELEASED e.released (behind c 5) c.put_u64.ensures.bytes paid in
    let last_zero = number_written c.put_u32.new.bytes c.put_u8-4.new.bytes end PADDING_END 0 (behind c 4) c.put_u8-4.ensures.bytes released in
    let zeros = number_written c.put_u8-3.new.bytes c.put_u32.new.bytes end PADDING_FRONT 0 (0 ∷ behind c 4) c.put_u32.ensures.bytes last_zero in
    let tier = number_written c.put_u8-2.new.bytes c.put_u8-3.new.bytes end FEE_TIER e.tier (behind c 3) c.put_u8-3.ensures.bytes zeros in
    let slot = number_written c.put_u8.new.bytes c.put_u8-2.new.bytes end OWNER_SLOT e.slot (behind c 2) c.put_u8-2.ensures.bytes tier in
    number_written c.args.bytes.now c.put_u8.new.bytes end FLAGS e.flags (behind c 1) c.put_u8.ensures.bytes slot

written : (c : goal.After-slice_known-12-1) → c.put_u64-4.new.bytes ≡ event_bytes c.args.event.now
written c =
    let e = c.args.event.now in
    let old = c.args.bytes.now in
    let long : length (event_bytes e) ≡ length old = length-event_bytes e (fits c).owner ∙ sym c.requires in
    sym (puts c) ∙ set_from-all old (event_bytes e) long

pub returns-clause-written : goal.returns-clause-written
returns-clause-written c = written c

pub returns-clause-read : goal.returns-clause-read
returns-clause-read c = ap event_of (written c) ∙ event_of-event_bytes c.args.event.now (fits c)

use Rattle.std.proofs.Common.{[], ◌∷◌, ◌<◌, ◌^◌, List, rules, sym, ap, ◌∙◌, arith}
use Rattle.dex_instruction.specs.Codes.{side_code, self_trade_code, order_type_code}
use Rattle.dex_instruction.specs.Numbers.{Field, spelled}
use Rattle.dex_instruction.specs.Spelling.{latest_fields}
use Rattle.dex_instruction.specs.Writing.{written}
use Rattle.dex_instruction.proofs.Writing.{behind_fields, last_number, written-nothing}
use Rattle.dex_instruction.proofs.Ranges.{limit_alone, no_fields, order_fits}
use Rattle.dex_instruction.proofs.encoding.put_fields.Goals as goal

pub returns-in-NewOrderV3-clause-bytes : goal.returns-in-NewOrderV3-clause-bytes
returns-in-NewOrderV3-clause-bytes c =
    let order = c.in-NewOrderV3 in
    let terms : List Field = (4, side_code order.side) ∷ (8, order.limit_price) ∷ (8, order.max_coin_qty) ∷ (8, order.max_native_pc_qty_including_fees) ∷ [] in
    let others : List Field =
    (4, self_trade_code order.self_trade_behavior) ∷ (4, order_type_code order.order_type) ∷ (8, order.client_order_id) ∷ (2, order.limit) ∷ latest_fields order.max_ts in
    rw order.is (behind_fields 5 33 terms others c.args.out.now c.put_terms.new.out c.put_order.new.out (omega arith) (omega arith) c.put_terms.ensures.bytes c.put_order.ensures.bytes)

pub returns-in-SendTake-clause-bytes : goal.returns-in-SendTake-clause-bytes
returns-in-SendTake-clause-bytes c =
    let order = c.in-SendTake in
    let terms : List Field = (4, side_code order.side) ∷ (8, order.limit_price) ∷ (8, order.max_coin_qty) ∷ (8, order.max_native_pc_qty_including_fees) ∷ [] in
    let others : List Field = (8, order.min_coin_qty) ∷ (8, order.min_native_pc_qty) ∷ (2, order.limit) ∷ [] in
    rw order.is (behind_fields 5 33 terms others c.args.out.now c.put_terms-in-SendTake.new.out c.put_take.new.out (omega arith) (omega arith) c.put_terms-in-SendTake.ensures.bytes c.put_take.ensures.bytes)

pub returns-in-NewOrderV3-clause-fits : goal.returns-in-NewOrderV3-clause-fits
returns-in-NewOrderV3-clause-fits c =
    let order = c.in-NewOrderV3 in
    let price : order.limit_price < 2 ^ 64 = search rules in
    let lots : order.max_coin_qty < 2 ^ 64 = search rules in
    let pc : order.max_native_pc_qty_including_fees < 2 ^ 64 = search rules in
    let client : order.client_order_id < 2 ^ 64 = search rules in
    let limit : order.limit < 2 ^ 16 = search rules in
    rw order.is (order_fits order.side order.limit_price order.max_coin_qty order.max_native_pc_qty_including_fees order.self_trade_behavior order.order_type order.client_order_id order.limit order.max_ts
    price lots pc client limit c.put_order.ensures.typed)

pub returns-in-CancelOrdersByClientIds-clause-fits : goal.returns-in-CancelOrdersByClientIds-clause-fits
returns-in-CancelOrdersByClientIds-clause-fits c = rw c.in-CancelOrdersByClientIds.is (c.put_ids.ensures.fits, c.put_ids.ensures.typed)

pub returns-in-SettleFunds-clause-bytes : goal.returns-in-SettleFunds-clause-bytes
returns-in-SettleFunds-clause-bytes c =
    rw (no_fields c.args.ix.now c.in-SettleFunds.is) (sym (written-nothing 5 c.args.out.now (omega arith)))

pub returns-in-CancelOrderByClientIdV2-clause-bytes : goal.returns-in-CancelOrderByClientIdV2-clause-bytes
returns-in-CancelOrderByClientIdV2-clause-bytes c =
    let cancel = c.in-CancelOrderByClientIdV2 in
    rw cancel.is (last_number 5 8 cancel.client_order_id _ c.args.out.now c.put.new.out c.to_le_bytes.ensures c.put.ensures.bytes)

pub returns-in-MatchOrders-clause-bytes : goal.returns-in-MatchOrders-clause-bytes
returns-in-MatchOrders-clause-bytes c =
    let limit = c.in-MatchOrders.limit in
    last_number 5 2 limit _ c.args.out.now c.put-in-MatchOrders.new.out c.to_le_bytes-in-MatchOrders.ensures c.put-in-MatchOrders.ensures.bytes
    ∙ ap (λ fields. written 5 (spelled fields) c.args.out.now) (sym (limit_alone c.args.ix.now limit c.in-MatchOrders.is))

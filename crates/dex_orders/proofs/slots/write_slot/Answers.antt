use Rattle.std.proofs.Common.{rules, ◌≡◌, ◌<◌, ◌^◌, ap, subst, sym, ◌∙◌}
use Rattle.dex_orders.specs.OrdersAccount.{AreDistinct, IsOpen, account_of, market_of, slots_of, with_slot}
use Rattle.dex_orders.proofs.SlotWrites.{IsOpen-with_slot, account_of-with_slot, market_of-with_slot}
use Rattle.dex_orders.proofs.slots.write_slot.Goals as goal

pub returns-clause-market : goal.returns-clause-market
returns-clause-market c =
    let made : c.put_u64.new.bytes ≡ with_slot c.args.bytes.now c.args.slot c.args.free_bits c.args.bid_bits c.args.id c.args.client = search rules in
    ap market_of made
    ∙ market_of-with_slot c.args.bytes.now c.args.slot c.args.free_bits c.args.bid_bits c.args.id c.args.client c.requires.accepted.opened.size c.requires.slot

pub returns-clause-words : goal.returns-clause-words
returns-clause-words c =
    let made : c.put_u64.new.bytes ≡ with_slot c.args.bytes.now c.args.slot c.args.free_bits c.args.bid_bits c.args.id c.args.client = search rules in
    let free : c.args.free_bits < 2 ^ 128 = search rules in
    let bids : c.args.bid_bits < 2 ^ 128 = search rules in
    let id : c.args.id < 2 ^ 128 = search rules in
    let client : c.args.client < 2 ^ 64 = search rules in
    ap account_of made
    ∙ account_of-with_slot c.args.bytes.now c.args.slot c.args.free_bits c.args.bid_bits c.args.id c.args.client c.requires.accepted.opened.size c.requires.slot
    free bids id client c.requires.free_others c.requires.bid_others

pub returns-clause-accepted : goal.returns-clause-accepted
returns-clause-accepted c distinct =
    let made : c.put_u64.new.bytes ≡ with_slot c.args.bytes.now c.args.slot c.args.free_bits c.args.bid_bits c.args.id c.args.client = search rules in
    subst IsOpen (sym made)
    (IsOpen-with_slot c.args.bytes.now c.args.slot c.args.free_bits c.args.bid_bits c.args.id c.args.client c.requires.accepted.opened.size c.requires.slot c.requires.accepted
    (subst (λ l. AreDistinct (slots_of l)) made distinct))

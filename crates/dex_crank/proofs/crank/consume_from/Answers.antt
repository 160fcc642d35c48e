use Rattle.std.proofs.Common.{◌≡◌, ℕ, suc, ◌+◌, ◌-◌, ◌<◌, ◌≤◌, true, drop, length, ap, ◌∙◌, arith, rules}
use Rattle.dex_ring.specs.Ring.{events_of}
use Rattle.dex_types.specs.Payment.{after_crank, consumable}
use Rattle.dex_types.specs.QueuedEvent.{decoded_event}
use Rattle.dex_types.specs.Owed.{leaving}
use Rattle.dex_types.specs.Side.{Coin, Pc}
use Rattle.dex_types.specs.Solvency.{all_leaving}
use Rattle.dex_crank.specs.PaidBytes.{CrankBytes, crank_of, goes_on, paid_bytes, paid_first}
use Rattle.dex_crank.proofs.CountLaws.{consumable-le, consumable-more, consumable-none}
use Rattle.dex_crank.proofs.PartLaws.{cranked-now}
use Rattle.dex_crank.proofs.crank.consume_from.Goals as goal

pub goes_on-requires : goal.goes_on-requires
goes_on-requires g c =
    let le : c.loop-count.count ≤ length (events_of c.args.queue.now) =
    omega (arith, c.loop-count.invariant.consumed, consumable-le c.args.limit c.args.named.now (events_of c.args.queue.now)) in
    (cranked-now (crank_of c.args.queue.now (g.A.OrdersAccounts.held c.args.accounts.now)) (crank_of c.loop-count.queue (g.A.OrdersAccounts.held c.loop-count.accounts)) c.requires.0 c.loop-count.count c.requires.1
    c.loop-count.invariant.bytes le).queue

pub pay_first-event-requires-clause-market : goal.pay_first-event-requires-clause-market
pay_first-event-requires-clause-market g c =
    let le : c.loop-count.count ≤ length (events_of c.args.queue.now) =
    omega (arith, c.loop-count.invariant.consumed, consumable-le c.args.limit c.args.named.now (events_of c.args.queue.now)) in (
      after_crank c.loop-count.count c.requires.0,
      cranked-now (crank_of c.args.queue.now (g.A.OrdersAccounts.held c.args.accounts.now)) (crank_of c.loop-count.queue (g.A.OrdersAccounts.held c.loop-count.accounts)) c.requires.0 c.loop-count.count c.requires.1
          c.loop-count.invariant.bytes le,
    )

pub loop-count-preserved : goal.loop-count-preserved
loop-count-preserved g c =
    let before : CrankBytes = crank_of c.args.queue.now (g.A.OrdersAccounts.held c.args.accounts.now) in
    let count = c.loop-count.count in
    let left : ℕ = c.args.limit - count in
    let next : suc count ≡ count + 1 = omega arith in
    let some : 0 < left = omega arith in
    let behind : drop 1 (events_of c.loop-count.queue) ≡ events_of c.pay_first-event.new.queue = ap (drop 1) c.pay_first-event.ensures.event in
    let coin : all_leaving Coin (events_of c.loop-count.queue) ≡ leaving Coin (decoded_event c.pay_first-event.result) + all_leaving Coin (events_of c.pay_first-event.new.queue) =
    ap (all_leaving Coin) c.pay_first-event.ensures.event in
    let pc : all_leaving Pc (events_of c.loop-count.queue) ≡ leaving Pc (decoded_event c.pay_first-event.result) + all_leaving Pc (events_of c.pay_first-event.new.queue) =
    ap (all_leaving Pc) c.pay_first-event.ensures.event in
    record {
      bytes = c.pay_first-event.ensures.bytes ∙ ap paid_first c.loop-count.invariant.bytes ∙ ap (λ (n : ℕ). paid_bytes n before) next;
      consumed =
          let on : goes_on c.args.named.now (events_of c.loop-count.queue) ≡ true = search rules in
          let more : consumable left c.args.named.now (events_of c.loop-count.queue) ≡ consumable (left - 1) c.args.named.now (drop 1 (events_of c.loop-count.queue)) + 1 =
          consumable-more left c.args.named.now (events_of c.loop-count.queue) some on in
          let rest : consumable (left - 1) c.args.named.now (drop 1 (events_of c.loop-count.queue)) ≡ consumable (left - 1) c.args.named.now (events_of c.pay_first-event.new.queue) =
          ap (consumable (left - 1) c.args.named.now) behind in
          let less : left - 1 ≡ c.args.limit - (count + 1) = omega arith in
          let same : consumable (left - 1) c.args.named.now (events_of c.pay_first-event.new.queue) ≡ consumable (c.args.limit - (count + 1)) c.args.named.now (events_of c.pay_first-event.new.queue) =
          ap (λ (n : ℕ). consumable n c.args.named.now (events_of c.pay_first-event.new.queue)) less in
          omega (arith, c.loop-count.invariant.consumed, more, rest, same);
      coin = omega (arith, c.loop-count.invariant.coin, coin, c.with_fill-fills.ensures.coin);
      pc = omega (arith, c.loop-count.invariant.pc, pc, c.with_fill-fills.ensures.pc);
      coin_small = omega (arith, c.loop-count.invariant.coin_small, c.with_fill-fills.ensures.coin_small);
      pc_small = omega (arith, c.loop-count.invariant.pc_small, c.with_fill-fills.ensures.pc_small);
      place = c.pay_first-event.ensures.place ∙ c.loop-count.invariant.place;
    }

pub returns-clause-count : goal.returns-clause-count
returns-clause-count g c =
    let none : c.args.limit - c.loop-count.count ≡ 0 = omega arith in
    omega (arith, c.loop-count.invariant.consumed, consumable-none (c.args.limit - c.loop-count.count) c.args.named.now (events_of c.loop-count.queue) none)

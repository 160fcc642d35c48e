use Rattle.std.proofs.Common.{length, refl, sym, arith}
use Rattle.std.proofs.lemmas.Bool.{le-ltb, lt-ltb}
use Rattle.dex_types.specs.Cancel.{all_orders_of}
use Rattle.dex_orders.proofs.SlotLaw.{length-slots_of}
use Rattle.dex_cancel.specs.Counting.{count_of_client}
use Rattle.dex_cancel_slots.specs.Given.{slots_in}
use Rattle.dex_cancel_slots.specs.Slots.{has_client, orders_in}
use Rattle.dex_cancel_slots.proofs.AnswerLaws.{told-count}
use Rattle.dex_cancel_slots.proofs.SlotSteps.{count-step}
use Rattle.dex_cancel_slots.proofs.TakenLaws.{past-taken}
use Rattle.dex_cancel_slots.proofs.counting.has_more.Goals as goal

pub returns-then-count-than : goal.returns-then-count-than
returns-then-count-than g c =
    let bids = g.B.SideRead.orders c.args.own.now.bids.now in
    let asks = g.A.SideRead.orders c.args.own.now.asks.now in
    sym (lt-ltb c.args.than (count_of_client c.args.client (all_orders_of c.args.own.now.account bids asks))
    (omega (
      arith,
      c.if-count-than.true,
      c.count_client_at.ensures.count,
      c.from-count.ensures,
      c.slots.invariant.sum,
      count-step (has_client c.args.client) bids asks (slots_in c.args.own.now.orders) c.slots.slot
          (omega (arith, length-slots_of c.args.own.now.orders.bytes.now, c.slots-test.true, c.taken_end-end.ensures.within)),
      told-count c.args.own.now.account (slots_in c.args.own.now.orders) bids asks c.requires.own.names c.args.client,
    )))

pub slots-preserved : goal.slots-preserved
slots-preserved g c =
    let bids = g.B.SideRead.orders c.args.own.now.bids.now in
    let asks = g.A.SideRead.orders c.args.own.now.asks.now in
    let step = count-step (has_client c.args.client) bids asks (slots_in c.args.own.now.orders) c.slots.slot
    (omega (arith, length-slots_of c.args.own.now.orders.bytes.now, c.slots-test.true, c.taken_end-end.ensures.within)) in
    record {
      sum = omega (arith, step, c.from-count.ensures, c.count_client_at.ensures.count, c.slots.invariant.sum);
      small = omega (arith, c.from-count.ensures, c.count_client_at.ensures.one, c.slots.invariant.small);
      most = omega (arith, c.if-count-than.false);
    }

pub returns : goal.returns
returns g c =
    let bids = g.B.SideRead.orders c.args.own.now.bids.now in
    let asks = g.A.SideRead.orders c.args.own.now.asks.now in
    sym (le-ltb c.args.than (count_of_client c.args.client (all_orders_of c.args.own.now.account bids asks))
    (omega (
      arith,
      c.slots.invariant.sum,
      c.slots.invariant.most,
      past-taken (λ s. length (orders_in (has_client c.args.client) bids asks s)) (λ later. refl) c.args.own.now.orders.bytes.now c.taken_end-end.result c.slots.slot
          (omega (arith, c.slots-test.false)) c.taken_end-end.ensures.free,
      told-count c.args.own.now.account (slots_in c.args.own.now.orders) bids asks c.requires.own.names c.args.client,
    )))

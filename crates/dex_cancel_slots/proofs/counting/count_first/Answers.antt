use Rattle.std.proofs.Common.{length, refl, arith}
use Rattle.std.proofs.lemmas.List.{length-take}
use Rattle.dex_types.specs.Cancel.{all_orders_of}
use Rattle.dex_orders.proofs.SlotLaw.{length-slots_of}
use Rattle.dex_cancel_slots.specs.Given.{slots_in}
use Rattle.dex_cancel_slots.specs.Slots.{any_holding, orders_in}
use Rattle.dex_cancel_slots.proofs.AnswerLaws.{told-length}
use Rattle.dex_cancel_slots.proofs.SlotSteps.{count-step}
use Rattle.dex_cancel_slots.proofs.TakenLaws.{past-taken}
use Rattle.dex_cancel_slots.proofs.counting.count_first.Goals as goal

pub slots-preserved : goal.slots-preserved
slots-preserved g c =
    let bids = g.B.SideRead.orders c.args.own.now.bids.now in
    let asks = g.A.SideRead.orders c.args.own.now.asks.now in
    let step = count-step any_holding bids asks (slots_in c.args.own.now.orders) c.slots.slot
    (omega (arith, length-slots_of c.args.own.now.orders.bytes.now, c.slots-test.true, c.taken_end-end.ensures.within)) in
    record {
      sum = omega (arith, step, c.count_at-count.ensures.count, c.slots.invariant.sum);
      small = omega (arith, c.count_at-count.ensures.one, c.slots.invariant.small);
      most = omega (arith, c.count_at-count.ensures.one, c.slots.invariant.most, c.if-count-limit.false);
    }

pub returns-then-count-limit : goal.returns-then-count-limit
returns-then-count-limit g c =
    let bids = g.B.SideRead.orders c.args.own.now.bids.now in
    let asks = g.A.SideRead.orders c.args.own.now.asks.now in
    omega (
      arith,
      c.if-count-limit.true,
      c.slots.invariant.sum,
      told-length c.args.own.now.account (slots_in c.args.own.now.orders) bids asks c.requires.own.names,
      length-take c.args.limit (all_orders_of c.args.own.now.account bids asks),
    )

pub returns : goal.returns
returns g c =
    let slots = slots_in c.args.own.now.orders in
    let bids = g.B.SideRead.orders c.args.own.now.bids.now in
    let asks = g.A.SideRead.orders c.args.own.now.asks.now in
    omega (
      arith,
      c.slots.invariant.sum,
      c.slots.invariant.most,
      past-taken (λ s. length (orders_in any_holding bids asks s)) (λ later. refl) c.args.own.now.orders.bytes.now c.taken_end-end.result c.slots.slot
          (omega (arith, c.slots-test.false)) c.taken_end-end.ensures.free,
      told-length c.args.own.now.account slots bids asks c.requires.own.names,
      length-take c.args.limit (all_orders_of c.args.own.now.account bids asks),
    )

use Rattle.std.proofs.Common.{◌<◌, length, arith, ◌∙◌}
use Rattle.dex_ring.specs.Ring.{events_of}
use Rattle.dex_ring.proofs.RingLaw.{capacity_of-le, length-events_of}
use Rattle.dex_types.specs.QueuedEvent.{decoded_event}
use Rattle.dex_types.specs.Side.{Coin, Pc}
use Rattle.dex_fills.proofs.PendingLaws.{summed-more}
use Rattle.dex_fills.proofs.pending.pending_fills.Goals as goal

pub loop-number-preserved : goal.loop-number-preserved
loop-number-preserved c =
    let events = events_of c.args.ring.now.bytes.now in
    let d = decoded_event c.at-event.result in
    let within : c.loop-number.number < length events = omega arith in
    record {
      coin = summed-more Coin events c.loop-number.number c.loop-number.coin c.from-coin.result d c.at-event.result within (c.at-event.ensures.event d)
          (c.from-coin.ensures ∙ c.paid_by.ensures) c.loop-number.invariant.coin;
      pc = summed-more Pc events c.loop-number.number c.loop-number.pc c.from-pc.result d c.at-event.result within (c.at-event.ensures.event d)
          (c.from-pc.ensures ∙ c.paid_by-in-loop-number.ensures) c.loop-number.invariant.pc;
      coin_small = omega arith;
      pc_small = omega arith;
    }

pub returns-clause-coin_small : goal.returns-clause-coin_small
returns-clause-coin_small c =
    let bytes = c.args.ring.now.bytes.now in
    omega (arith, length-events_of bytes, capacity_of-le bytes c.requires.most)

pub returns-clause-pc_small : goal.returns-clause-pc_small
returns-clause-pc_small c =
    let bytes = c.args.ring.now.bytes.now in
    omega (arith, length-events_of bytes, capacity_of-le bytes c.requires.most)

use Rattle.std.proofs.Common.{sym}
use Rattle.dex_take.specs.TakeGiven.{given, read_of}
use Rattle.dex_take.specs.TakeTerms.{take_of}
use Rattle.dex_take.specs.Taking.{left_in, plan_in, take_reason}
use Rattle.dex_take.proofs.TakeAmounts.{backed-sound}
use Rattle.dex_take.proofs.TakeReasons.{decided_as}
use Rattle.dex_take.proofs.decide.decide_take.Goals as goal

pub foreseen-requires-clause-backed : goal.foreseen-requires-clause-backed
foreseen-requires-clause-backed g c =
    rw (c.gathered-input.ensures.market, c.gathered-input.ensures.ring, c.gathered-input.ensures.opposite)
    (backed-sound c.args.taker.now.id_side (given c.args.market.now.bytes.now c.args.ring.now.bytes.now (g.B.SideRead.orders c.args.opposite.now)) c.requires.parts)

pub bounded-requires-clause-backed : goal.bounded-requires-clause-backed
bounded-requires-clause-backed g c =
    rw (c.gathered-input.ensures.market, c.gathered-input.ensures.ring, c.gathered-input.ensures.opposite)
    (backed-sound c.args.taker.now.id_side (given c.args.market.now.bytes.now c.args.ring.now.bytes.now (g.B.SideRead.orders c.args.opposite.now)) c.requires.parts)

pub returns-in-Ok : goal.returns-in-Ok
returns-in-Ok g c =
    let side = c.args.taker.now.id_side in
    let t = take_of c.args.taker.now c.args.min_lots c.args.min_pc in
    let read = read_of (given c.args.market.now.bytes.now c.args.ring.now.bytes.now (g.B.SideRead.orders c.args.opposite.now)) in
    c.plan_of.ensures (take_reason side t read c.args.seen.now) (decided_as (plan_in side t read) (left_in side t read))
    (rw (sym c.gathered-input.ensures.market, sym c.gathered-input.ensures.ring, sym c.gathered-input.ensures.opposite, sym c.gathered-input.ensures.seen) c.bounded.ensures)

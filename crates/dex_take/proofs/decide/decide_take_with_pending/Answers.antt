use Rattle.dex_take.specs.TakeGiven.{given}
use Rattle.dex_take.proofs.TakeAmounts.{backed-sound}
use Rattle.dex_take.proofs.decide.decide_take_with_pending.Goals as goal

pub foreseen-requires-clause-backed : goal.foreseen-requires-clause-backed
foreseen-requires-clause-backed g c =
    backed-sound c.args.taker.now.id_side (given c.args.input.now.market.bytes.now c.args.input.now.ring.bytes.now (g.B.SideRead.orders c.args.input.now.opposite.now)) c.requires.parts

pub bounded-requires-clause-backed : goal.bounded-requires-clause-backed
bounded-requires-clause-backed g c =
    backed-sound c.args.taker.now.id_side (given c.args.input.now.market.bytes.now c.args.input.now.ring.bytes.now (g.B.SideRead.orders c.args.input.now.opposite.now)) c.requires.parts

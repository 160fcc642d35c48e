use Rattle.std.proofs.Common.{arith}
use Rattle.dex_ring.proofs.RingLaw.{length-events_of}
use Rattle.dex_ring.proofs.ring_ref.RingRef.room.Goals as goal

pub overflow_sub-result : goal.overflow_sub-result
overflow_sub-result c = omega (arith, length-events_of c.args.self.now.bytes.now, c.requires.count)

pub returns : goal.returns
returns c = omega (arith, length-events_of c.args.self.now.bytes.now, c.requires.count)

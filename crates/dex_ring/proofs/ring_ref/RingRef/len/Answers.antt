use Rattle.std.proofs.Common.{sym, ◌∙◌}
use Rattle.dex_ring.proofs.RingLaw.{length-events_of}
use Rattle.dex_ring.proofs.ring_ref.RingRef.len.Goals as goal

pub returns : goal.returns
returns c = c.get_u64.ensures ∙ sym (length-events_of c.args.self.now.bytes.now)

use Rattle.std.proofs.Common.{◌≡◌, take, map}
use Rattle.dex_types.specs.QueuedEvent.{decoded_event}
use Rattle.dex_ring.specs.Ring.{ring_of}
use Rattle.dex_audit_rules.proofs.gathered.pending_events.Given as goal

abbrev pub invariant-loop-number : goal.invariant-loop-number
invariant-loop-number l = map decoded_event l.events.items ≡ take l.number (ring_of l.ring.bytes.now).events

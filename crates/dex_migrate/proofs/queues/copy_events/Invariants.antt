use Rattle.std.proofs.Common.{◌≡◌, take}
use Rattle.dex_ring.specs.Appended.{pushed_all}
use Rattle.dex_ring.specs.Ring.{IsEventQueue, events_of, ring_of}
use Rattle.dex_migrate.proofs.queues.copy_events.Given as goal

abbrev pub invariant-events : goal.invariant-events
invariant-events l = record {
  bytes : l.to.bytes.now ≡ pushed_all (take l.index (events_of l.from.bytes.now)) l.initial.to.bytes.now;
  events : events_of l.to.bytes.now ≡ take l.index (events_of l.from.bytes.now);
  capacity : (ring_of l.to.bytes.now).capacity ≡ (ring_of l.initial.to.bytes.now).capacity;
  accepted : IsEventQueue l.to.bytes.now;
  place : l.to.bytes.ghost_name ≡ l.initial.to.bytes.ghost_name;
}

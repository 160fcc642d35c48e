use Rattle.std.proofs.Common.{rules, ◌≡◌, ◌<◌, sym, ap, ◌∙◌, subst, arith}
use Rattle.dex_fields.specs.declared.event_queue.TheConstants.{COUNT}
use Rattle.dex_fields.specs.Bytes.{number_in}
use Rattle.dex_ring.specs.Ring.{IsEventQueue, capacity_of, pushed, ring_of}
use Rattle.dex_ring.proofs.PushLaw.{IsEventQueue-pushed, ring_of-pushed}
use Rattle.dex_ring.proofs.RingLaw.{length-events_of}
use Rattle.dex_ring.proofs.ring_view.RingView.push.Goals as goal

made : (c : goal.After-put_u64-2) → c.put_u64-2.new.bytes ≡ pushed c.args.self.now.bytes.now c.args.event.now
made c = search rules

room : (c : goal.After-put_u64-2) → number_in c.args.self.now.bytes.now COUNT < capacity_of c.args.self.now.bytes.now
room c = omega (arith, length-events_of c.args.self.now.bytes.now, c.requires.room)

pub returns-clause-list : goal.returns-clause-list
returns-clause-list c =
    ap ring_of (made c) ∙ ring_of-pushed c.args.self.now.bytes.now c.args.event.now c.requires.accepted (room c) c.write_event.ensures.read c.write_event.ensures.size

pub returns-clause-accepted : goal.returns-clause-accepted
returns-clause-accepted c =
    subst IsEventQueue (sym (made c)) (IsEventQueue-pushed c.args.self.now.bytes.now c.args.event.now c.requires.accepted (room c) c.write_event.ensures.read c.write_event.ensures.size c.requires.queued)

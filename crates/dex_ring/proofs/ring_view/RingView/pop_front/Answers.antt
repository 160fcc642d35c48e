use Rattle.std.proofs.Common.{rules, ◌≡◌, ◌<◌, ◌∷◌, sym, ap, ◌∙◌, subst, arith}
use Rattle.dex_fields.specs.declared.event_queue.TheConstants.{COUNT}
use Rattle.dex_fields.specs.Bytes.{number_in}
use Rattle.dex_types.specs.QueuedEvent.{decoded_event}
use Rattle.dex_ring.specs.Ring.{IsEventQueue, events_of, popped, ring_of}
use Rattle.dex_ring.proofs.PopLaw.{IsEventQueue-popped, events_of-first, ring_of-popped}
use Rattle.dex_ring.proofs.RingLaw.{length-events_of}
use Rattle.dex_ring.proofs.ring_view.RingView.pop_front.Goals as goal

pub overflow_sub-count : goal.overflow_sub-count
overflow_sub-count c = omega (arith, length-events_of c.args.self.now.bytes.now, c.requires.pending)

made : (c : goal.After-put_u64-2) → c.put_u64-2.new.bytes ≡ popped c.args.self.now.bytes.now
made c = search rules

pending : (c : goal.After-put_u64-2) → 0 < number_in c.args.self.now.bytes.now COUNT
pending c = omega (arith, length-events_of c.args.self.now.bytes.now, c.requires.pending)

pub returns-clause-event : goal.returns-clause-event
returns-clause-event c =
    let bytes = c.args.self.now.bytes.now in
    events_of-first bytes c.requires.accepted (pending c)
    ∙ ap (λ e. decoded_event e ∷ events_of (popped bytes)) (sym c.event_at-event.ensures.here)
    ∙ ap (λ l. decoded_event c.event_at-event.result ∷ events_of l) (sym (made c))

pub returns-clause-list : goal.returns-clause-list
returns-clause-list c = ap ring_of (made c) ∙ ring_of-popped c.args.self.now.bytes.now c.requires.accepted (pending c)

pub returns-clause-accepted : goal.returns-clause-accepted
returns-clause-accepted c = subst IsEventQueue (sym (made c)) (IsEventQueue-popped c.args.self.now.bytes.now c.requires.accepted (pending c))

use Rattle.std.proofs.Common.{◌<◌, sym, ap, ◌∙◌, subst, arith}
use Rattle.dex_fields.specs.declared.event_queue.TheConstants.{COUNT}
use Rattle.dex_fields.specs.Bytes.{number_in}
use Rattle.dex_types.specs.QueuedEvent.{encoded_event}
use Rattle.dex_ring.specs.EventBytes.{IsQueued}
use Rattle.dex_ring.specs.Ring.{event_at}
use Rattle.dex_ring.proofs.RingLaw.{encoded-decoded, get_or-events_of, length-events_of}
use Rattle.dex_ring.proofs.ring_ref.event_at.Goals as goal

pub numbered_event-requires-clause-number : goal.numbered_event-requires-clause-number
numbered_event-requires-clause-number c = omega (arith, length-events_of c.args.bytes.now, c.requires.accepted.count)

within : (c : goal.After-numbered_event) → c.args.number < number_in c.args.bytes.now COUNT
within c = omega (arith, length-events_of c.args.bytes.now)

pub returns-clause-event : goal.returns-clause-event
returns-clause-event c d =
    let bytes = c.args.bytes.now in
    c.numbered_event.ensures ∙ sym (encoded-decoded (event_at bytes c.args.number) (c.requires.accepted.events c.args.number (within c)))
    ∙ ap encoded_event (sym (get_or-events_of bytes c.args.number d (within c)))

pub returns-clause-queued : goal.returns-clause-queued
returns-clause-queued c = subst IsQueued (sym (c.numbered_event.ensures)) (c.requires.accepted.events c.args.number (within c))

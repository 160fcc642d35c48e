-- the amounts of the events that stand in an event queue
use Rattle.std.specs.List.{All}
use Rattle.std.proofs.lemmas.List.Elements.{All-from_get_or, All-tail}
use Rattle.std.proofs.Common.{◌≡◌, ℕ, ◌<◌, List, [], ◌∷◌, ◌++◌, length, sym, ap, subst, arith}
use Rattle.dex_fields.specs.declared.event.TheConstants.{NATIVE_QTY_RELEASED, NATIVE_QTY_PAID, NATIVE_FEE_OR_REBATE}
use Rattle.dex_fields.specs.declared.event_queue.TheConstants.{HEAD, COUNT}
use Rattle.dex_fields.specs.Bytes.{AreBytes, bytes_in, number_in}
use Rattle.dex_fields.proofs.Reading.{AreBytes-bytes_in, length-bytes_in, number_in-lt}
use Rattle.dex_types.specs.QueuedEvent.{QueuedEvent, decoded_event}
use Rattle.dex_ring.specs.Appended.{AmountsFit, appended}
use Rattle.dex_ring.specs.EventBytes.{event_of}
use Rattle.dex_ring.specs.Ring.{IsEventQueue, Ring, capacity_of, event_at, event_field, events_of, place_of, ring_of}
use Rattle.dex_ring.proofs.RingLaw.{event_field-inside, get_or-events_of, length-events_of, place_of-lt}

-- 88 bytes hold amounts below 2^64
AmountsFit-event_of : (piece : List ℕ) → AreBytes piece → length piece ≡ 88 → AmountsFit (decoded_event (event_of piece))
unfolding event_of
AmountsFit-event_of piece are size = record {
  released = number_in-lt piece NATIVE_QTY_RELEASED are (omega (arith, size));
  paid = number_in-lt piece NATIVE_QTY_PAID are (omega (arith, size));
  fee_or_rebate = number_in-lt piece NATIVE_FEE_OR_REBATE are (omega (arith, size));
}

AmountsFit-event_at : (bytes : List ℕ) (number : ℕ) → AreBytes bytes → IsEventQueue bytes → AmountsFit (decoded_event (event_at bytes number))
unfolding event_at
AmountsFit-event_at bytes number are accepted =
    let place : ℕ = place_of (capacity_of bytes) (number_in bytes HEAD) number in
    let lt : place < capacity_of bytes = place_of-lt (capacity_of bytes) (number_in bytes HEAD) number (omega (arith, accepted.head)) in
    let inside = event_field-inside bytes place (omega (arith, accepted.least)) lt in
    AmountsFit-event_of (bytes_in bytes (event_field place)) (AreBytes-bytes_in bytes (event_field place) are)
    (length-bytes_in bytes (event_field place) (omega (arith, inside)))

pub AmountsFit-events_of : (bytes : List ℕ) → AreBytes bytes → IsEventQueue bytes → All AmountsFit (events_of bytes)
AmountsFit-events_of bytes are accepted =
    let first : QueuedEvent = decoded_event (event_at bytes 0) in
    All-from_get_or AmountsFit (events_of bytes) first (λ number lt.
    let count : number < number_in bytes COUNT = omega (arith, length-events_of bytes, lt) in
    subst AmountsFit (sym (get_or-events_of bytes number first count)) (AmountsFit-event_at bytes number are accepted))

-- what holds of all holds of those after
All-behind : (P : QueuedEvent → Type 0) (front events : List QueuedEvent) → All P (front ++ events) → All P events
All-behind P [] events all = all
All-behind P (event ∷ front) events all = All-behind P front events (All-tail P event (front ++ events) all)

pub AmountsFit-appended : (events : List QueuedEvent) (old new : List ℕ) → AreBytes new → IsEventQueue new
    → ring_of new ≡ appended events (ring_of old) → All AmountsFit events
AmountsFit-appended events old new are accepted is =
    let list : events_of new ≡ events_of old ++ events = ap (λ (ring : Ring). ring.events) is in
    All-behind AmountsFit (events_of old) events (subst (λ (l : List QueuedEvent). All AmountsFit l) list (AmountsFit-events_of new are accepted))

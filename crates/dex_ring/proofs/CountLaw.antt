-- What is left of an event queue whose count of all events is written.
use Rattle.std.proofs.Common.{◌≡◌, ℕ, ◌+◌, ◌-◌, ◌/◌, ◌<◌, ◌≤◌, ◌^◌, List, length, map, refl, sym, ap, ◌∙◌, subst, arith, lit≤}
use Rattle.std.specs.List.{range_with_len}
use Rattle.dex_fields.specs.declared.event_queue.TheConstants.{ACCOUNT_FLAGS, HEAD, COUNT, SEQ_NUM}
use Rattle.dex_fields.specs.Bytes.{end_of, number_in, with_number}
use Rattle.dex_fields.proofs.FrameLaw.{IsFramed-with_number}
use Rattle.dex_fields.proofs.Places.{number_in-other}
use Rattle.dex_fields.proofs.Writing.{length-with_number, number_in-with_number}
use Rattle.dex_types.specs.QueuedEvent.{QueuedEvent, decoded_event}
use Rattle.dex_ring.specs.EventBytes.{IsQueued}
use Rattle.dex_ring.specs.Ring.{IsEventQueue, Ring, capacity_of, event_at, events_of, place_of, ring_of}
use Rattle.dex_ring.proofs.RingLaw.{event_at-kept, events-with_number, map-range_same}

module _ (bytes : List ℕ) (queue : IsEventQueue bytes) (value : ℕ) where
  abbrev counted : List ℕ
  counted = with_number bytes SEQ_NUM value

  long : length counted ≡ length bytes
  long = length-with_number bytes SEQ_NUM value

  same-head : number_in counted HEAD ≡ number_in bytes HEAD
  same-head = number_in-other bytes SEQ_NUM value HEAD refl

  same-count : number_in counted COUNT ≡ number_in bytes COUNT
  same-count = number_in-other bytes SEQ_NUM value COUNT refl

  same-event : (number : ℕ) → event_at counted number ≡ event_at bytes number
  same-event number =
      event_at-kept bytes counted number number long
      (ap (λ (h : ℕ). place_of (capacity_of bytes) h number) same-head)
      (events-with_number bytes SEQ_NUM value (place_of (capacity_of bytes) (number_in bytes HEAD) number) (lit≤ tt))

  same-events : events_of counted ≡ events_of bytes
  unfolding events_of
  same-events =
      let old : ℕ → QueuedEvent = λ number. decoded_event (event_at bytes number) in
      let new : ℕ → QueuedEvent = λ number. decoded_event (event_at counted number) in
      ap (λ (n : ℕ). map new (range_with_len 0 n)) same-count
      ∙ map-range_same new old 0 0 (number_in bytes COUNT) (λ k lt. ap decoded_event (same-event (0 + k)))

  pub ring_of-counted : value < 2 ^ 64 → ring_of counted ≡ record (ring_of bytes) { seq_num = value }
  ring_of-counted fits =
      let made : List QueuedEvent → ℕ → ℕ → Ring = λ events size appended. record { events = events; capacity = (size - 44) / 88; seq_num = appended } in
      let within : end_of SEQ_NUM ≤ length bytes = omega (arith, queue.least) in
      ap (λ (events : List QueuedEvent). made events (length counted) (number_in counted SEQ_NUM)) same-events
      ∙ ap (λ (n : ℕ). made (events_of bytes) n (number_in counted SEQ_NUM)) long
      ∙ ap (made (events_of bytes) (length bytes)) (number_in-with_number bytes SEQ_NUM value within fits)

  pub IsEventQueue-counted : IsEventQueue counted
  IsEventQueue-counted = record {
    least = omega (arith, long, queue.least);
    most = omega (arith, long, queue.most);
    framed = IsFramed-with_number bytes SEQ_NUM value (lit≤ tt) (omega (arith, queue.least)) queue.framed;
    flags = number_in-other bytes SEQ_NUM value ACCOUNT_FLAGS refl ∙ queue.flags;
    head = subst (λ (n : ℕ). number_in counted HEAD < (n - 44) / 88) (sym long) (omega (arith, same-head, queue.head));
    count = subst (λ (n : ℕ). number_in counted COUNT ≤ (n - 44) / 88) (sym long) (omega (arith, same-count, queue.count));
    events = λ number lt. subst IsQueued (sym (same-event number)) (queue.events number (omega (arith, same-count)));
  }

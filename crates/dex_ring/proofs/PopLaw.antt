-- What is left of an event queue where its first event is taken.
use Rattle.std.proofs.Common.{◌≡◌, ℕ, suc, ◌+◌, ◌-◌, ◌/◌, ◌<◌, ◌≤◌, List, ◌∷◌, length, map, drop, refl, sym, ap, ◌∙◌, subst, arith, lit≤}
use Rattle.std.specs.List.{range_with_len}
use Rattle.dex_fields.specs.declared.event_queue.TheConstants.{ACCOUNT_FLAGS, HEAD, COUNT, SEQ_NUM}
use Rattle.dex_fields.specs.Bytes.{end_of, number_in, with_number}
use Rattle.dex_fields.proofs.FrameLaw.{IsFramed-with_number}
use Rattle.dex_fields.proofs.Places.{number_in-other}
use Rattle.dex_fields.proofs.Writing.{length-with_number, number_in-with_number}
use Rattle.dex_types.specs.QueuedEvent.{QueuedEvent, decoded_event}
use Rattle.dex_ring.specs.EventBytes.{IsQueued}
use Rattle.dex_ring.specs.Ring.{IsEventQueue, Ring, capacity_of, event_at, events_of, place_of, popped, ring_of}
use Rattle.dex_ring.proofs.RingLaw.{capacity_of-le, event_at-kept, events-with_number, map-range_same, place_of-lt, place_of-next}

-- an accepted queue with an event in use
module _ (bytes : List ℕ) (queue : IsEventQueue bytes) (pending : 0 < number_in bytes COUNT) where
  abbrev count : ℕ
  count = number_in bytes COUNT

  -- the head afterwards
  abbrev next : ℕ
  next = place_of (capacity_of bytes) (number_in bytes HEAD) 1

  abbrev moved : List ℕ
  moved = with_number bytes HEAD next

  next_lt : next < capacity_of bytes
  next_lt = place_of-lt (capacity_of bytes) (number_in bytes HEAD) 1 (omega (arith, queue.head))

  long : length (popped bytes) ≡ length bytes
  long = length-with_number moved COUNT (count - 1) ∙ length-with_number bytes HEAD next

  popped-head : number_in (popped bytes) HEAD ≡ next
  popped-head =
      let within : end_of HEAD ≤ length bytes = omega (arith, queue.least) in
      number_in-other moved COUNT (count - 1) HEAD refl
      ∙ number_in-with_number bytes HEAD next within (omega (arith, next_lt, capacity_of-le bytes queue.most))

  pub popped-count : number_in (popped bytes) COUNT ≡ count - 1
  popped-count =
      let within : end_of COUNT ≤ length moved = omega (arith, queue.least, length-with_number bytes HEAD next) in
      number_in-with_number moved COUNT (count - 1) within (omega (arith, queue.count, capacity_of-le bytes queue.most))

  popped-flags : number_in (popped bytes) ACCOUNT_FLAGS ≡ number_in bytes ACCOUNT_FLAGS
  popped-flags = number_in-other moved COUNT (count - 1) ACCOUNT_FLAGS refl ∙ number_in-other bytes HEAD next ACCOUNT_FLAGS refl

  popped-seq_num : number_in (popped bytes) SEQ_NUM ≡ number_in bytes SEQ_NUM
  popped-seq_num = number_in-other moved COUNT (count - 1) SEQ_NUM refl ∙ number_in-other bytes HEAD next SEQ_NUM refl

  -- each event is one number nearer to the front
  pub popped-event : (number : ℕ) → event_at (popped bytes) number ≡ event_at bytes (number + 1)
  popped-event number =
      let place : ℕ = place_of (capacity_of bytes) (number_in bytes HEAD) (number + 1) in
      event_at-kept bytes (popped bytes) (number + 1) number long
      (ap (λ (h : ℕ). place_of (capacity_of bytes) h number) popped-head ∙ place_of-next (capacity_of bytes) (number_in bytes HEAD) number)
      (events-with_number moved COUNT (count - 1) place (lit≤ tt) ∙ events-with_number bytes HEAD next place (lit≤ tt))

  pub events_of-first : events_of bytes ≡ decoded_event (event_at bytes 0) ∷ events_of (popped bytes)
  unfolding events_of
  events_of-first =
      let old : ℕ → QueuedEvent = λ number. decoded_event (event_at bytes number) in
      let new : ℕ → QueuedEvent = λ number. decoded_event (event_at (popped bytes) number) in
      let left : ℕ = count - 1 in
      let whole : count ≡ suc left = omega arith in
      let behind : map old (range_with_len (0 + 1) left) ≡ map new (range_with_len 0 left) =
      map-range_same old new (0 + 1) 0 left (λ k lt.
      let near : 0 + 1 + k ≡ k + 1 = omega arith in
      let same : k ≡ 0 + k = omega arith in
      ap old near ∙ sym (ap decoded_event (popped-event k)) ∙ ap new same) in
      ap (λ (n : ℕ). map old (range_with_len 0 n)) whole
      ∙ ap (λ (l : List QueuedEvent). old 0 ∷ l) (behind ∙ ap (λ (n : ℕ). map new (range_with_len 0 n)) (sym popped-count))

  pub ring_of-popped : ring_of (popped bytes) ≡ record (ring_of bytes) { events = drop 1 (events_of bytes) }
  ring_of-popped =
      let made : List QueuedEvent → ℕ → ℕ → Ring = λ events size appended. record { events = events; capacity = (size - 44) / 88; seq_num = appended } in
      ap (λ (events : List QueuedEvent). made events (length (popped bytes)) (number_in (popped bytes) SEQ_NUM)) (sym (ap (drop 1) events_of-first))
      ∙ ap (λ (n : ℕ). made (drop 1 (events_of bytes)) n (number_in (popped bytes) SEQ_NUM)) long
      ∙ ap (made (drop 1 (events_of bytes)) (length bytes)) popped-seq_num

  pub IsEventQueue-popped : IsEventQueue (popped bytes)
  IsEventQueue-popped = record {
    least = omega (arith, long, queue.least);
    most = omega (arith, long, queue.most);
    framed = IsFramed-with_number moved COUNT (count - 1) (lit≤ tt) (omega (arith, queue.least, length-with_number bytes HEAD next))
        (IsFramed-with_number bytes HEAD next (lit≤ tt) (omega (arith, queue.least)) queue.framed);
    flags = popped-flags ∙ queue.flags;
    head = subst (λ (n : ℕ). number_in (popped bytes) HEAD < (n - 44) / 88) (sym long) (omega (arith, popped-head, next_lt));
    count = subst (λ (n : ℕ). number_in (popped bytes) COUNT ≤ (n - 44) / 88) (sym long) (omega (arith, popped-count, queue.count));
    events = λ number lt. subst IsQueued (sym (popped-event number)) (queue.events (number + 1) (omega (arith, popped-count)));
  }

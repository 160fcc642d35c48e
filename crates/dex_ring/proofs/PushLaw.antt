-- What an append leaves of an event queue.
use Rattle.std.proofs.Common.{◌≡◌, ◌≢◌, ℕ, ◌+◌, ◌-◌, ◌/◌, ◌^◌, ◌<◌, ◌≤◌, List, [], ◌∷◌, ◌++◌, length, map, refl, sym, ap, ◌∙◌, subst, arith, inl, inr, lit≤}
use Rattle.std.proofs.Math.Nat.{mod-lt}
use Rattle.std.proofs.lemmas.Bool.{cases_lt}
use Rattle.std.proofs.lemmas.List.FromFn.{map-range_with_len_more}
use Rattle.std.specs.List.{range_with_len}
use Rattle.dex_fields.specs.declared.field.Field.{Field}
use Rattle.dex_fields.specs.declared.event_queue.TheConstants.{ACCOUNT_FLAGS, HEAD, COUNT, SEQ_NUM}
use Rattle.dex_fields.specs.Bytes.{bytes_in, end_of, number_in, with_bytes, with_number}
use Rattle.dex_fields.proofs.FrameLaw.{IsFramed-with_bytes, IsFramed-with_number}
use Rattle.dex_fields.proofs.Places.{number_in-other}
use Rattle.dex_fields.proofs.Writing.{bytes_in-with_bytes, bytes_in-with_bytes_apart, length-with_bytes, length-with_number, number_in-with_bytes_apart, number_in-with_number}
use Rattle.dex_types.specs.declared.orders.Event.{Event}
use Rattle.dex_types.specs.Market.{events_counted}
use Rattle.dex_types.specs.QueuedEvent.{QueuedEvent, decoded_event}
use Rattle.dex_ring.specs.EventBytes.{IsQueued, event_bytes, event_of}
use Rattle.dex_ring.specs.Ring.{IsEventQueue, Ring, capacity_of, event_at, event_field, events_of, free_place, place_of, pushed, ring_of}
use Rattle.dex_ring.proofs.RingLaw.{capacity_of-le, event_at-kept, event_field-inside, event_fields_apart, events-with_number, map-range_same, place_of-lt, place_of-other}

-- an accepted queue with room, and an event that it may hold
module _ (bytes : List ℕ) (e : Event) (queue : IsEventQueue bytes) (room : number_in bytes COUNT < capacity_of bytes) where
  abbrev count : ℕ
  count = number_in bytes COUNT

  abbrev place : ℕ
  place = free_place bytes

  abbrev appended : ℕ
  appended = events_counted (number_in bytes SEQ_NUM) 1

  -- the stages of the append
  abbrev written : List ℕ
  written = with_bytes bytes (event_field place) (event_bytes e)

  abbrev counted : List ℕ
  counted = with_number written COUNT (count + 1)

  place_lt : place < capacity_of bytes
  place_lt = place_of-lt (capacity_of bytes) (number_in bytes HEAD) count (omega (arith, queue.head))

  inside : end_of (event_field place) + 7 ≤ length bytes
  inside = event_field-inside bytes place (omega (arith, queue.least)) place_lt

  long : length (pushed bytes e) ≡ length bytes
  long = length-with_number counted SEQ_NUM appended ∙ length-with_number written COUNT (count + 1) ∙ length-with_bytes bytes (event_field place) (event_bytes e)

  -- a word of the header that is not written
  header_kept : (field : Field) → end_of field ≤ 37 → number_in written field ≡ number_in bytes field
  header_kept field low = number_in-with_bytes_apart bytes field (event_field place) (event_bytes e) (inl (omega arith))

  pub pushed-head : number_in (pushed bytes e) HEAD ≡ number_in bytes HEAD
  pushed-head = number_in-other counted SEQ_NUM appended HEAD refl ∙ number_in-other written COUNT (count + 1) HEAD refl ∙ header_kept HEAD (lit≤ tt)

  pushed-flags : number_in (pushed bytes e) ACCOUNT_FLAGS ≡ number_in bytes ACCOUNT_FLAGS
  pushed-flags =
      number_in-other counted SEQ_NUM appended ACCOUNT_FLAGS refl ∙ number_in-other written COUNT (count + 1) ACCOUNT_FLAGS refl
      ∙ header_kept ACCOUNT_FLAGS (lit≤ tt)

  pub pushed-count : number_in (pushed bytes e) COUNT ≡ count + 1
  pushed-count =
      let within : end_of COUNT ≤ length written = omega (arith, queue.least, length-with_bytes bytes (event_field place) (event_bytes e)) in
      number_in-other counted SEQ_NUM appended COUNT refl
      ∙ number_in-with_number written COUNT (count + 1) within (omega (arith, capacity_of-le bytes queue.most))

  pub pushed-seq_num : number_in (pushed bytes e) SEQ_NUM ≡ appended
  pushed-seq_num =
      let within : end_of SEQ_NUM ≤ length counted =
      omega (arith, queue.least, length-with_bytes bytes (event_field place) (event_bytes e), length-with_number written COUNT (count + 1)) in
      let fits : appended < 2 ^ 64 = mod-lt (number_in bytes SEQ_NUM + 1) (omega arith) in
      number_in-with_number counted SEQ_NUM appended within fits

  -- the bytes of an event after the two numbers were written
  behind : (other : ℕ) → bytes_in (pushed bytes e) (event_field other) ≡ bytes_in written (event_field other)
  behind other = events-with_number counted SEQ_NUM appended other (lit≤ tt) ∙ events-with_number written COUNT (count + 1) other (lit≤ tt)

  -- an event that was in use stands where it stood
  pub pushed-event : (number : ℕ) → number < count → event_at (pushed bytes e) number ≡ event_at bytes number
  pushed-event number lt =
      let other : ℕ = place_of (capacity_of bytes) (number_in bytes HEAD) number in
      let apart : other ≢ place = place_of-other (capacity_of bytes) (number_in bytes HEAD) number count queue.head lt room in
      event_at-kept bytes (pushed bytes e) number number long
      (ap (λ (h : ℕ). place_of (capacity_of bytes) h number) pushed-head)
      (behind other ∙ bytes_in-with_bytes_apart bytes (event_field other) (event_field place) (event_bytes e) (event_fields_apart other place apart))

  module _ (back : event_of (event_bytes e) ≡ e) (size : length (event_bytes e) ≡ 88) where
    -- the event after them is the new one
    pub pushed-last : event_at (pushed bytes e) count ≡ e
    unfolding event_at
    pushed-last =
        ap (λ (n : ℕ). event_of (bytes_in (pushed bytes e) (event_field (place_of ((n - 44) / 88) (number_in (pushed bytes e) HEAD) count)))) long
        ∙ ap (λ (h : ℕ). event_of (bytes_in (pushed bytes e) (event_field (place_of (capacity_of bytes) h count)))) pushed-head
        ∙ ap event_of (behind place ∙ bytes_in-with_bytes bytes (event_field place) (event_bytes e) (omega (arith, inside)) size) ∙ back

    pub pushed-events : events_of (pushed bytes e) ≡ events_of bytes ++ decoded_event e ∷ []
    unfolding events_of
    pushed-events =
        let new : ℕ → QueuedEvent = λ number. decoded_event (event_at (pushed bytes e) number) in
        let old : ℕ → QueuedEvent = λ number. decoded_event (event_at bytes number) in
        let before : map new (range_with_len 0 count) ≡ map old (range_with_len 0 count) =
        map-range_same new old 0 0 count (λ k lt. ap decoded_event (pushed-event (0 + k) (omega arith))) in
        ap (λ (n : ℕ). map new (range_with_len 0 n)) pushed-count
        ∙ map-range_with_len_more new 0 count count (omega arith)
        ∙ ap (λ (l : List QueuedEvent). l ++ new count ∷ []) before
        ∙ ap (λ (last : Event). map old (range_with_len 0 count) ++ decoded_event last ∷ []) pushed-last

    pub ring_of-pushed : ring_of (pushed bytes e) ≡ record (ring_of bytes) { events = events_of bytes ++ decoded_event e ∷ []; seq_num = appended }
    ring_of-pushed =
        let made : List QueuedEvent → ℕ → ℕ → Ring = λ events size appended. record { events = events; capacity = (size - 44) / 88; seq_num = appended } in
        ap (λ (events : List QueuedEvent). made events (length (pushed bytes e)) (number_in (pushed bytes e) SEQ_NUM)) pushed-events
        ∙ ap (λ (n : ℕ). made (events_of bytes ++ decoded_event e ∷ []) n (number_in (pushed bytes e) SEQ_NUM)) long
        ∙ ap (made (events_of bytes ++ decoded_event e ∷ []) (length bytes)) pushed-seq_num

    pub IsEventQueue-pushed : IsQueued e → IsEventQueue (pushed bytes e)
    IsEventQueue-pushed queued = record {
      least = omega (arith, long, queue.least);
      most = omega (arith, long, queue.most);
      framed = IsFramed-with_number counted SEQ_NUM appended (lit≤ tt) (omega (arith, queue.least, length-with_bytes bytes (event_field place) (event_bytes e), length-with_number written COUNT (count + 1)))
          (IsFramed-with_number written COUNT (count + 1) (lit≤ tt) (omega (arith, queue.least, length-with_bytes bytes (event_field place) (event_bytes e)))
          (IsFramed-with_bytes bytes (event_field place) (event_bytes e) (omega arith) inside queue.framed));
      flags = pushed-flags ∙ queue.flags;
      head = subst (λ (n : ℕ). number_in (pushed bytes e) HEAD < (n - 44) / 88) (sym long) (omega (arith, pushed-head, queue.head));
      count = subst (λ (n : ℕ). number_in (pushed bytes e) COUNT ≤ (n - 44) / 88) (sym long) (omega (arith, pushed-count, room));
      events = λ number lt.
          elim (cases_lt number count) [
            | inl before ↦ subst IsQueued (sym (pushed-event number before)) (queue.events number before)
            | inr past ↦
                let last : number ≡ count = omega (arith, pushed-count) in
                subst IsQueued (sym (ap (event_at (pushed bytes e)) last ∙ pushed-last)) queued
          ];
    }

-- What an event queue holds as it is made.
use Rattle.std.proofs.Common.{◌≡◌, ℕ, ◌-◌, ◌/◌, ◌≤◌, List, [], length, map, ap, ◌∙◌, arith, lit≤, lit<}
use Rattle.std.specs.List.{range_with_len}
use Rattle.dex_fields.specs.declared.event_queue.TheConstants.{HEAD, COUNT, SEQ_NUM}
use Rattle.dex_fields.specs.Bytes.{number_in}
use Rattle.dex_fields.proofs.EmptyLaw.{IsFramed-empty_account, flags-empty_account, length-empty_account, number_in-empty_account}
use Rattle.dex_types.specs.QueuedEvent.{QueuedEvent, decoded_event}
use Rattle.dex_ring.specs.Blank.{IsMadeSize, blank_queue}
use Rattle.dex_ring.specs.Ring.{IsEventQueue, Ring, capacity_of, event_at, events_of, ring_of}

module _ (size : ℕ) (made : IsMadeSize size) where
  abbrev now : List ℕ
  now = blank_queue size

  long : 20 ≤ size
  long = omega (arith, made.least)

  length-now : length now ≡ size
  length-now = length-empty_account size 17 long

  capacity : capacity_of now ≡ (size - 44) / 88
  capacity = ap (λ (n : ℕ). (n - 44) / 88) length-now

  head : number_in now HEAD ≡ 0
  head = number_in-empty_account size 17 long HEAD (lit≤ tt) (omega (arith, made.least))

  count : number_in now COUNT ≡ 0
  count = number_in-empty_account size 17 long COUNT (lit≤ tt) (omega (arith, made.least))

  seq_num : number_in now SEQ_NUM ≡ 0
  seq_num = number_in-empty_account size 17 long SEQ_NUM (lit≤ tt) (omega (arith, made.least))

  pub IsEventQueue-blank_queue : IsEventQueue now
  IsEventQueue-blank_queue = record {
    least = omega (arith, length-now, made.least);
    most = omega (arith, length-now, made.most);
    framed = IsFramed-empty_account size 17 long;
    flags = flags-empty_account size 17 long (lit< tt);
    head = omega (arith, head, capacity, made.least, made.whole);
    count = omega (arith, count);
    events = λ number lt. absurd (omega (arith, count, lt));
  }

  events : events_of now ≡ []
  unfolding events_of
  events = ap (λ (n : ℕ). map (λ number. decoded_event (event_at now number)) (range_with_len 0 n)) count

  pub ring_of-blank_queue : ring_of now ≡ record { events = []; capacity = (size - 44) / 88; seq_num = 0 }
  ring_of-blank_queue =
      let ring : List QueuedEvent → ℕ → ℕ → Ring = λ e c s. record { events = e; capacity = c; seq_num = s } in
      ap (λ (e : List QueuedEvent). ring e (capacity_of now) (number_in now SEQ_NUM)) events
      ∙ ap (λ (c : ℕ). ring [] c (number_in now SEQ_NUM)) capacity
      ∙ ap (ring [] ((size - 44) / 88)) seq_num

-- What an event queue holds, and which bytes are one.
use Rattle.std.specs.Prelude.{◌≡◌, ℕ, ◌+◌, ◌-◌, ◌*◌, ◌/◌, ◌%◌, ◌<◌, ◌≤◌, List, length, map}
use Rattle.std.specs.List.{range_with_len}
use Rattle.dex_fields.specs.declared.field.Field.{Field}
use Rattle.dex_fields.specs.declared.event_queue.TheConstants.{ACCOUNT_FLAGS, HEAD, COUNT, SEQ_NUM}
use Rattle.dex_fields.specs.Bytes.{bytes_in, number_in, with_bytes, with_number}
use Rattle.dex_fields.specs.Frame.{IsFramed}
use Rattle.dex_types.specs.declared.orders.Event.{Event}
use Rattle.dex_types.specs.Market.{events_counted}
use Rattle.dex_types.specs.QueuedEvent.{QueuedEvent, decoded_event}
use Rattle.dex_ring.specs.EventBytes.{IsQueued, event_bytes, event_of}

-- the pending events, from the front, how many the queue can hold, and how many were ever appended, modulo 2^64
pub record Ring : Type 0 where
  pub events : List QueuedEvent
  pub capacity : ℕ
  pub seq_num : ℕ

-- how many events fit after the header
abbrev pub capacity_of : List ℕ → ℕ
capacity_of bytes = (length bytes - 44) / 88

-- the 88 bytes at a place of the ring
abbrev pub event_field : ℕ → Field
event_field place = record { at = 37 + place * 88; len = 88 }

-- the place of the event with this number from the front, in a ring of this capacity and head
abbrev pub place_of : ℕ → ℕ → ℕ → ℕ
place_of capacity head number = (head + number) % capacity

-- the event with this number from the front, as it stands in the bytes
unfoldable pub event_at : List ℕ → ℕ → Event
event_at bytes number = event_of (bytes_in bytes (event_field (place_of (capacity_of bytes) (number_in bytes HEAD) number)))

-- the events in use, from the front
unfoldable pub events_of : List ℕ → List QueuedEvent
events_of bytes = map (λ number. decoded_event (event_at bytes number)) (range_with_len 0 (number_in bytes COUNT))

-- what the bytes of an event queue say
abbrev pub ring_of : List ℕ → Ring
ring_of bytes = record {
  events = events_of bytes;
  capacity = capacity_of bytes;
  seq_num = number_in bytes SEQ_NUM;
}

-- the bytes are an event queue, of 1 to 65,535 events
pub record IsEventQueue (bytes : List ℕ) : Type 0 where
  pub least : 132 ≤ length bytes
  pub most : length bytes ≤ 5767211
  pub framed : IsFramed bytes
  pub flags : number_in bytes ACCOUNT_FLAGS ≡ 17
  pub head : number_in bytes HEAD < capacity_of bytes
  pub count : number_in bytes COUNT ≤ capacity_of bytes
  pub events : (number : ℕ) → number < number_in bytes COUNT → IsQueued (event_at bytes number)

-- the place after the last event in use
abbrev pub free_place : List ℕ → ℕ
free_place bytes = place_of (capacity_of bytes) (number_in bytes HEAD) (number_in bytes COUNT)

-- what an append leaves: the event after the last one in use, one more in use, and one more that was ever appended
abbrev pub pushed : List ℕ → Event → List ℕ
pushed bytes event =
    with_number
    (with_number (with_bytes bytes (event_field (free_place bytes)) (event_bytes event)) COUNT (number_in bytes COUNT + 1))
    SEQ_NUM
    (events_counted (number_in bytes SEQ_NUM) 1)

-- what is left where the first event is taken: the head at the next place, and one fewer in use
abbrev pub popped : List ℕ → List ℕ
popped bytes =
    with_number
    (with_number bytes HEAD (place_of (capacity_of bytes) (number_in bytes HEAD) 1))
    COUNT
    (number_in bytes COUNT - 1)

-- the free places of an event queue
abbrev pub room_of : Ring → ℕ
room_of ring = ring.capacity - length ring.events

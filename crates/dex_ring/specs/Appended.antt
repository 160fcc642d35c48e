-- What appending events leaves of an event queue: of the list that it holds, and of its bytes.
use Rattle.std.specs.Prelude.{◌≡◌, ℕ, ◌+◌, ◌^◌, ◌<◌, ◌≤◌, ◌++◌, List, [], ◌∷◌, length}
use Rattle.dex_types.specs.Market.{events_counted}
use Rattle.dex_types.specs.QueuedEvent.{QueuedEvent, encoded_event}
use Rattle.dex_ring.specs.EventBytes.{IsQueued, event_bytes, event_of}
use Rattle.dex_ring.specs.Ring.{Ring, pushed}

-- the events stand after the pending ones, and are counted
abbrev pub appended : List QueuedEvent → Ring → Ring
appended events ring = record ring { events = ring.events ++ events; seq_num = events_counted ring.seq_num (length events) }

-- the queue has room for that many more events
abbrev pub HasRoom : ℕ → Ring → Type 0
HasRoom more ring = length ring.events + more ≤ ring.capacity

-- the bytes after the events were appended one after another
abbrev pub pushed_all : List QueuedEvent → List ℕ → List ℕ
pushed_all [] bytes = bytes
pushed_all (event ∷ others) bytes = pushed_all others (pushed bytes (encoded_event event))

-- an event that 88 bytes of a queue can hold: it is read back as it was written
pub record IsStorable (event : QueuedEvent) : Type 0 where
  pub queued : IsQueued (encoded_event event)
  pub read : event_of (event_bytes (encoded_event event)) ≡ encoded_event event
  pub size : length (event_bytes (encoded_event event)) ≡ 88

-- the native amounts of an event are below 2^64
pub record AmountsFit (event : QueuedEvent) : Type 0 where
  pub released : event.released < 2 ^ 64
  pub paid : event.paid < 2 ^ 64
  pub fee_or_rebate : event.fee_or_rebate < 2 ^ 64

-- Which market the bytes of its event queue stand for.
use Rattle.std.specs.Prelude.{◌≡◌, ℕ, List}
use Rattle.dex_types.specs.Market.{Market}
use Rattle.dex_ring.specs.Ring.{IsEventQueue, Ring, ring_of}

-- the events that a market's queue holds, its capacity, and its count of all events
abbrev pub ring_of_market : Market → Ring
ring_of_market market = record {
  events = market.events;
  capacity = market.listing.event_capacity;
  seq_num = market.events_appended;
}

-- the bytes are the event queue of this market
pub record StandsForEvents (bytes : List ℕ) (market : Market) : Type 0 where
  pub accepted : IsEventQueue bytes
  pub ring : ring_of bytes ≡ ring_of_market market

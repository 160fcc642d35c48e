-- Accounts of another size.
use Rattle.std.specs.Prelude.{◌≡◌, ℕ, List, length}
use Rattle.std.specs.List.{AllZip}
use Rattle.dex_fields.specs.declared.event_queue.TheConstants.{SEQ_NUM}
use Rattle.dex_fields.specs.Bytes.{with_number}
use Rattle.dex_ring.specs.Appended.{pushed_all}
use Rattle.dex_ring.specs.Blank as queue
use Rattle.dex_ring.specs.Ring.{IsEventQueue, events_of, ring_of}
use Rattle.dex_slab.specs.Blank as slab
use Rattle.dex_slab.specs.Nodes.{room_of}
use Rattle.dex_slab.specs.Slab.{resting, room_in}
use Rattle.dex_slab.specs.StandsFor.{IsSideAccount}
use Rattle.dex_types.specs.declared.terms.Side.{Side}
use Rattle.dex_types.specs.declared.terms.Side.TheVariants.{Bid, Ask}
use Rattle.dex_types.specs.Accounts.{PlainAccounts, PlainMarketAccounts}
use Rattle.dex_types.specs.Market.{Market}

-- the bytes are an account of the side that is made with this many nodes, and holds the orders of another one
pub record IsSideOf (side : Side) (nodes : ℕ) (old new : List ℕ) : Type 0 where
  pub account : IsSideAccount side new
  pub size : length new ≡ slab.made_size nodes
  pub orders : resting side new ≡ resting side old
  pub room : room_in new ≡ room_of nodes

-- an event queue as it is made for this many events, to which the events of another one were appended, with the other's
-- count of all events: so its head is 0, and all bytes after the events in use are zero
abbrev pub queue_with : ℕ → List ℕ → List ℕ
queue_with events old = with_number (pushed_all (events_of old) (queue.blank_queue (queue.made_size events))) SEQ_NUM (ring_of old).seq_num

-- the bytes are an event queue that is made for this many events, and holds those of another one
pub record IsQueueOf (events : ℕ) (old new : List ℕ) : Type 0 where
  pub account : IsEventQueue new
  pub bytes : new ≡ queue_with events old
  pub ring : ring_of new ≡ record (ring_of old) { capacity = events }

-- the accounts of a market with sides of this many nodes and a queue for this many events in the place of its own; all
-- else is as it was
pub record IsMigrated (nodes events : ℕ) (old new : PlainMarketAccounts) : Type 0 where
  pub bids : IsSideOf Bid nodes old.bids new.bids
  pub asks : IsSideOf Ask nodes old.asks new.asks
  pub queue : IsQueueOf events old.events new.events
  pub others : record new { bids = old.bids; asks = old.asks; events = old.events } ≡ old

-- all accounts, of which each market's were migrated
pub record AreMigrated (nodes events : ℕ) (old new : PlainAccounts) : Type 0 where
  pub markets : AllZip (IsMigrated nodes events) old.markets new.markets
  pub others : record new { markets = old.markets } ≡ old

-- the market with sides that have room for what so many nodes hold, and a queue with room for this many events
abbrev pub with_capacities : ℕ → ℕ → Market → Market
with_capacities nodes events m =
    record m { listing = record m.listing { bid_capacity = room_of nodes; ask_capacity = room_of nodes; event_capacity = events } }

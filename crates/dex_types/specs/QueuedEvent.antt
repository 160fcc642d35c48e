-- The pending events of a market, and how the event queue holds them.
use Rattle.std.specs.Prelude.{ℕ, ◌==◌, if◌then◌else◌}
use Rattle.dex_types.specs.declared.addresses.Address.{Address}
use Rattle.dex_types.specs.declared.orders.Event.{Event}
use Rattle.dex_types.specs.declared.terms.Side.{Side}
use Rattle.dex_types.specs.declared.terms.Side.TheVariants.{Bid, Ask}

-- what an event tells, by the side of its order: a fill of a resting order, all fills of a new order in one, an order
-- that is gone without funds to release, or one that is gone or smaller and releases what it unlocks
pub data EventKind : Type 0 where
  MakerFill : Side → EventKind
  TakerFill : Side → EventKind
  PlainOut : Side → EventKind
  ReleasingOut : Side → EventKind

-- a pending event, with native amounts. Of a fill, the order's owner receives `released` and pays `paid`, a taker at
-- once and a maker when the event is consumed, and the last amount is the fee or the rebate; of an out, `released` is
-- unlocked, `paid` stays locked, and the last amount is 0
pub record QueuedEvent : Type 0 where
  pub kind : EventKind
  pub slot : ℕ
  pub tier : ℕ
  pub released : ℕ
  pub paid : ℕ
  pub fee_or_rebate : ℕ
  pub id : ℕ
  pub owner : Address
  pub client : ℕ

-- the flags of a kind: Fill 1, Out 2, Bid 4, Maker 8, ReleaseFunds 16
abbrev pub flags_of : EventKind → ℕ
flags_of (MakerFill Ask) = 9
flags_of (MakerFill Bid) = 13
flags_of (TakerFill Ask) = 1
flags_of (TakerFill Bid) = 5
flags_of (PlainOut Ask) = 2
flags_of (PlainOut Bid) = 6
flags_of (ReleasingOut Ask) = 18
flags_of (ReleasingOut Bid) = 22

-- the kind of these flags, where they are those of a kind
abbrev pub kind_of : ℕ → EventKind
kind_of flags =
    if flags == 9 then MakerFill Ask
    else (if flags == 13 then MakerFill Bid
    else (if flags == 1 then TakerFill Ask
    else (if flags == 5 then TakerFill Bid
    else (if flags == 2 then PlainOut Ask
    else (if flags == 6 then PlainOut Bid
    else (if flags == 18 then ReleasingOut Ask else ReleasingOut Bid))))))

-- the event as the queue holds it
abbrev pub encoded_event : QueuedEvent → Event
encoded_event e = record {
  flags = flags_of e.kind;
  slot = e.slot;
  tier = e.tier;
  released = e.released;
  paid = e.paid;
  fee_or_rebate = e.fee_or_rebate;
  id = e.id;
  owner = e.owner;
  client = e.client;
}

-- what the queue's event tells
abbrev pub decoded_event : Event → QueuedEvent
decoded_event e = record {
  kind = kind_of e.flags;
  slot = e.slot;
  tier = e.tier;
  released = e.released;
  paid = e.paid;
  fee_or_rebate = e.fee_or_rebate;
  id = e.id;
  owner = e.owner;
  client = e.client;
}

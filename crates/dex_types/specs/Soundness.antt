-- When a market is sound: what a step of an instruction that decodes is to keep.
use Rattle.std.specs.Prelude.{ℕ, ◌+◌, ◌≡◌, ◌<◌, ◌≤◌, ◌^◌, List, [], ◌∷◌, Option, Some, None, Bool, true, false, ◌&&◌, ◌==◌, length, slice_index_or, if◌then◌else◌}
use Rattle.std.specs.List.{All}
use Rattle.dex_types.specs.declared.addresses.Address.{Address}
use Rattle.dex_types.specs.declared.orders.Order.{Order}
use Rattle.dex_types.specs.declared.terms.Lots.{Lots}
use Rattle.dex_types.specs.declared.terms.Side.{Side}
use Rattle.dex_types.specs.Addresses.{is_same}
use Rattle.dex_types.specs.Market.{Market, orders, capacity}
use Rattle.dex_types.specs.Owed.{order_lock}
use Rattle.dex_types.specs.Posting.{InBookOrder}
use Rattle.dex_types.specs.QueuedEvent.{EventKind, MakerFill, TakerFill, PlainOut, ReleasingOut, QueuedEvent}
use Rattle.dex_types.specs.Side.{price_of, sequence_of}
use Rattle.dex_types.specs.Solvency.{IsSolvent, IsBounded, AddsUp}
use Rattle.dex_types.specs.Tokens.{is_same_side}
use Rattle.dex_types.specs.Totals.{total}
use Rattle.dex_types.specs.Trader.{Account, Holding, Trader, Open, Traders, trader_at}

-- a resting order has a price and lots, locks a native amount, and has the number of a tier
pub record IsProper (side : Side) (sizes : Lots) (order : Order) : Type 0 where
  pub price : 1 ≤ price_of order.id
  pub lots : 1 ≤ order.lots
  pub lock : order_lock side sizes order < 2 ^ 64
  pub tier : order.tier < 7

-- each address stands once
abbrev pub AreDistinct : Traders → Type 0
AreDistinct [] = Unit {0}
AreDistinct (entry ∷ others) = (trader_at entry.0 others ≡ None) × AreDistinct others

-- an open account has 128 slots
abbrev pub HasSlots : Traders → Type 0
HasSlots traders = (owner : Address) (account : Account) → trader_at owner traders ≡ Some (Open account) → length account.slots ≡ 128

-- each part of a market by itself is as it can be: two mints, sizes and capacities, the order and the room of the
-- sides, the orders, the tiers of events, the two counters, and the accounts' addresses and slots
pub record IsWellFormed (m : Market) : Type 0 where
  pub mints : is_same m.listing.coin_mint m.listing.pc_mint ≡ false
  pub coin_lot : 1 ≤ m.listing.sizes.coin
  pub pc_lot : 1 ≤ m.listing.sizes.pc
  pub room : (side : Side) → 1 ≤ capacity side m
  pub in_order : (side : Side) → InBookOrder side (orders side m)
  pub proper : (side : Side) → All (IsProper side m.listing.sizes) (orders side m)
  pub within : (side : Side) → length (orders side m) ≤ capacity side m
  pub events_within : length m.events ≤ m.listing.event_capacity
  pub tiers : All (λ (event : QueuedEvent). event.tier < 7) m.events
  pub sequence : m.next_sequence < 2 ^ 64
  pub counted : m.events_appended < 2 ^ 64
  pub distinct : AreDistinct m.traders
  pub slots : HasSlots m.traders

-- what a slot of a trader holds: nothing where the trader is not open or the slot is free
abbrev pub held_by : Option Trader → ℕ → Option Holding
held_by (Some (Open account)) slot = slice_index_or account.slots slot None
held_by _ slot = None

-- what the slot of the account at an address holds
abbrev pub held_at : Address → ℕ → Traders → Option Holding
held_at owner slot traders = held_by (trader_at owner traders) slot

-- the side of an event's order
abbrev pub side_of_kind : EventKind → Side
side_of_kind (MakerFill side) = side
side_of_kind (TakerFill side) = side
side_of_kind (PlainOut side) = side
side_of_kind (ReleasingOut side) = side

-- what the slot of a resting order holds
abbrev pub order_holding : Side → Order → Holding
order_holding side order = record { id = order.id; side = side; client = order.client }

-- what the slot of a pending event's order holds
abbrev pub event_holding : QueuedEvent → Holding
event_holding event = record { id = event.id; side = side_of_kind event.kind; client = event.client }

-- the two are one order: its id and its side. Past sequence number 2^63 a bid and an ask can have one id
abbrev pub is_one_order : Holding → Holding → Bool
is_one_order held other = (held.id == other.id) && is_same_side held.side other.side

-- the kind is that of an out
abbrev pub is_out_kind : EventKind → Bool
is_out_kind (PlainOut side) = true
is_out_kind (ReleasingOut side) = true
is_out_kind _ = false

-- the event is the last of its order: an out that leaves nothing locked
abbrev pub is_final : QueuedEvent → Bool
is_final event = is_out_kind event.kind && (event.paid == 0)

-- one for a resting order that is this one
abbrev pub counts_order : Side → Holding → Order → ℕ
counts_order side held order = if is_one_order held (order_holding side order) then 1 else 0

-- how many resting orders are this one
abbrev pub resting_of : Holding → Market → ℕ
resting_of held m = total (counts_order held.side held) (orders held.side m)

-- one for a final out of this order
abbrev pub counts_final : Holding → QueuedEvent → ℕ
counts_final held event = if is_final event && is_one_order held (event_holding event) then 1 else 0

-- how many pending events are final outs of this order
abbrev pub finals_of : Holding → List QueuedEvent → ℕ
finals_of held events = total (counts_final held) events

-- none of these events is of this order
abbrev pub AreOfOthers : Holding → List QueuedEvent → Type 0
AreOfOthers held [] = Unit {0}
AreOfOthers held (event ∷ events) = (is_one_order held (event_holding event) ≡ false) × AreOfOthers held events

-- each pending event is of an order that its owner's slot holds, and no event of the order comes after a final out of
-- it
abbrev pub AreHeld : Traders → List QueuedEvent → Type 0
AreHeld traders [] = Unit {0}
AreHeld traders (event ∷ events) =
    (held_at event.owner event.slot traders ≡ Some (event_holding event))
    × (is_final event ≡ true → AreOfOthers (event_holding event) events)
    × AreHeld traders events

-- the slots and what they stand for: a resting order is held by its owner's slot; a held order rests and has no final
-- out, or does not rest and has exactly one; pending events are held; and the sequence numbers of held orders were
-- given out, each once
pub record SlotsAgree (m : Market) : Type 0 where
  pub resting : (side : Side) → All (λ (order : Order). held_at order.owner order.slot m.traders ≡ Some (order_holding side order)) (orders side m)
  pub taken : (owner : Address) (slot : ℕ) (held : Holding) → held_at owner slot m.traders ≡ Some held → resting_of held m + finals_of held m.events ≡ 1
  pub pending : AreHeld m.traders m.events
  pub given : (owner : Address) (slot : ℕ) (held : Holding) → held_at owner slot m.traders ≡ Some held → sequence_of held.side held.id < m.next_sequence
  pub once : (owner other : Address) (slot at : ℕ) (held same : Holding) → held_at owner slot m.traders ≡ Some held → held_at other at m.traders ≡ Some same
      → sequence_of held.side held.id ≡ sequence_of same.side same.id → (owner ≡ other) × (slot ≡ at)

-- the funds: vaults cover what is owed, accounts add up, and sums stay within 64 bits
pub record FundsAgree (m : Market) : Type 0 where
  pub solvent : IsSolvent m
  pub adds_up : AddsUp m
  pub bounded : IsBounded m

-- a market that is sound, as every step leaves it
pub record IsSound (m : Market) : Type 0 where
  pub form : IsWellFormed m
  pub slots : SlotsAgree m
  pub funds : FundsAgree m

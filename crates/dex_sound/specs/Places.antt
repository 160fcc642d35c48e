-- What slots hold, counted by place instead of by order: a place is a slot of an account.
use Rattle.std.specs.Prelude.{ℕ, ◌+◌, ◌≡◌, ◌<◌, List, [], ◌∷◌, Option, Some, None, true, false, ◌&&◌, if◌then◌else◌}
use Rattle.std.specs.List.{All}
use Rattle.dex_types.specs.declared.addresses.Address.{Address}
use Rattle.dex_types.specs.declared.orders.Order.{Order}
use Rattle.dex_types.specs.declared.terms.Side.{Side}
use Rattle.dex_types.specs.Market.{Market, orders}
use Rattle.dex_types.specs.QueuedEvent.{QueuedEvent}
use Rattle.dex_types.specs.Side.{sequence_of}
use Rattle.dex_types.specs.Soundness.{IsWellFormed, FundsAgree, held_at, order_holding, event_holding, is_final}
use Rattle.dex_types.specs.Totals.{total, weighed_where}
use Rattle.dex_types.specs.Trader.{Holding, Traders}
use Rattle.dex_laws.specs.Places.{is_order_at, is_event_at}

-- how many of these orders rest for a place
abbrev pub rests_at : Address → ℕ → List Order → ℕ
rests_at owner slot orders = total (weighed_where (is_order_at owner slot) (λ order. 1)) orders

-- one for a final out of the place's order
abbrev pub ends_here : Address → ℕ → QueuedEvent → ℕ
ends_here owner slot event = if is_final event && is_event_at owner slot event then 1 else 0

-- how many of these events are final outs for a place
abbrev pub ends_at : Address → ℕ → List QueuedEvent → ℕ
ends_at owner slot events = total (ends_here owner slot) events

-- one where something is held
abbrev pub is_taken : Option Holding → ℕ
is_taken None = 0
is_taken (Some held) = 1

-- none of these events is for the place
abbrev pub AreElsewhere : Address → ℕ → List QueuedEvent → Type 0
AreElsewhere owner slot [] = Unit {0}
AreElsewhere owner slot (event ∷ events) = (is_event_at owner slot event ≡ false) × AreElsewhere owner slot events

-- no event comes after a final out for its place
abbrev pub EndLast : List QueuedEvent → Type 0
EndLast [] = Unit {0}
EndLast (event ∷ events) = (is_final event ≡ true → AreElsewhere event.owner event.slot events) × EndLast events

-- no two places hold orders of one sequence number
abbrev pub HoldOnce : Traders → Type 0
HoldOnce traders =
    (owner other : Address) (slot at : ℕ) (held same : Holding) → held_at owner slot traders ≡ Some held → held_at other at traders ≡ Some same
    → sequence_of held.side held.id ≡ sequence_of same.side same.id → (owner ≡ other) × (slot ≡ at)

-- the slots and what they stand for, by place: at each place as many orders rest and final outs wait as orders are held
-- there
pub record PlacesAgree (m : Market) : Type 0 where
  pub resting : (side : Side) → All (λ (order : Order). held_at order.owner order.slot m.traders ≡ Some (order_holding side order)) (orders side m)
  pub pending : All (λ (event : QueuedEvent). held_at event.owner event.slot m.traders ≡ Some (event_holding event)) m.events
  pub counts : (owner : Address) (slot : ℕ) → rests_at owner slot m.bids + rests_at owner slot m.asks + ends_at owner slot m.events ≡ is_taken (held_at owner slot m.traders)
  pub last : EndLast m.events
  pub given : (owner : Address) (slot : ℕ) (held : Holding) → held_at owner slot m.traders ≡ Some held → sequence_of held.side held.id < m.next_sequence
  pub once : HoldOnce m.traders

-- a market that is sound, with its slots counted by place
pub record IsSoundByPlace (m : Market) : Type 0 where
  pub form : IsWellFormed m
  pub places : PlacesAgree m
  pub funds : FundsAgree m

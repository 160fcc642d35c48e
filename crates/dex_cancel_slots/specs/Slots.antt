-- Which resting orders the slots of an account name.
use Rattle.std.specs.Prelude.{◌≡◌, ◌<◌, ◌≤◌, ℕ, Bool, true, false, List, [], ◌∷◌, ◌++◌, Option, Some, None, IfSome, slice_index_or, ◌==◌, if◌then◌else◌}
use Rattle.std.specs.List.{All}
use Rattle.dex_types.specs.declared.addresses.Address.{Address}
use Rattle.dex_types.specs.declared.orders.Order.{Order}
use Rattle.dex_types.specs.declared.terms.Side.{Side}
use Rattle.dex_types.specs.Addresses.{is_same}
use Rattle.dex_types.specs.Cancel.{RestingOrder, older, on_side, order_with}
use Rattle.dex_types.specs.Posting.{InBookOrder}
use Rattle.dex_types.specs.Side.{by_side, precedes, sequence_of}
use Rattle.dex_types.specs.Soundness.{is_one_order, order_holding}
use Rattle.dex_types.specs.Tokens.{is_same_side}
use Rattle.dex_types.specs.Trader.{Holding}
use Rattle.dex_orders.specs.Bits.{is_set}

-- what the slot of this number holds
abbrev pub held_in : List (Option Holding) → ℕ → Option Holding
held_in slots slot = slice_index_or slots slot None

-- the slots from one number up to another are free
abbrev pub AreFree : List (Option Holding) → ℕ → ℕ → Type 0
AreFree slots from to = (slot : ℕ) → from ≤ slot → slot < to → held_in slots slot ≡ None

-- the client id of what a slot holds, where it is taken, is this one
abbrev pub IsClientOf : Option Holding → ℕ → Type 0
IsClientOf held client = IfSome held (λ (h : Holding). h.client ≡ client)

-- the id of what a slot holds, where it is taken, is this one
abbrev pub IsIdOf : Option Holding → ℕ → Type 0
IsIdOf held id = IfSome held (λ (h : Holding). h.id ≡ id)

-- the order that a slot names, where it is taken and its holding passes the test: the one of its id on its side, if one
-- rests there
abbrev pub named_by_slot : (Holding → Bool) → List Order → List Order → Option Holding → List RestingOrder
named_by_slot test bids asks None = []
named_by_slot test bids asks (Some held) = if test held then on_side held.side (order_with held.id (by_side held.side bids asks)) else []

-- the orders that the slots name, in the order of the slots
abbrev pub orders_in : (Holding → Bool) → List Order → List Order → List (Option Holding) → List RestingOrder
orders_in test bids asks [] = []
orders_in test bids asks (slot ∷ others) = named_by_slot test bids asks slot ++ orders_in test bids asks others

-- any holding
abbrev pub any_holding : Holding → Bool
any_holding held = true

-- the holding has this client id
abbrev pub has_client : ℕ → Holding → Bool
has_client client held = held.client == client

-- the holding is of this side
abbrev pub is_on : Side → Holding → Bool
is_on side held = is_same_side held.side side

-- a slot is taken, and its holding passes the test
abbrev pub is_held : (Holding → Bool) → Option Holding → Bool
is_held test None = false
is_held test (Some held) = test held

-- the bits that are set are those of the slots whose holdings pass the test
abbrev pub AreBitsOf : (Holding → Bool) → List (Option Holding) → ℕ → Type 0
AreBitsOf test slots bits = (slot : ℕ) → slot < 128 → is_set bits slot ≡ is_held test (held_in slots slot)

-- the bits from one place up to another are not set
abbrev pub AreClear : ℕ → ℕ → ℕ → Type 0
AreClear bits from to = (place : ℕ) → from ≤ place → place < to → is_set bits place ≡ false

-- of these orders the one with the least sequence number
abbrev pub oldest_of : List RestingOrder → Option RestingOrder
oldest_of [] = None
oldest_of (first ∷ others) = Some (older first (oldest_of others))

-- these orders of a side, which stand in book order, with one more in its place
abbrev pub put_in_order : Side → RestingOrder → List RestingOrder → List RestingOrder
put_in_order side one [] = one ∷ []
put_in_order side one (first ∷ others) =
    if precedes side first.order.id one.order.id then first ∷ put_in_order side one others else one ∷ first ∷ others

-- these orders of a side, sorted into book order
abbrev pub in_book_order : Side → List RestingOrder → List RestingOrder
in_book_order side [] = []
in_book_order side (first ∷ others) = put_in_order side first (in_book_order side others)

-- ---- when they are an account's orders

-- where the order is the owner's, its slot holds it
abbrev pub IsHeldIn : Address → List (Option Holding) → Side → Order → Type 0
IsHeldIn owner slots side order = is_same owner order.owner ≡ true → held_in slots order.slot ≡ Some (order_holding side order)

-- where a slot holds the id and the side of the order, the order is the owner's and is as the slot says
abbrev pub IsAsHeld : Address → List (Option Holding) → Side → Order → Type 0
IsAsHeld owner slots side order = (slot : ℕ) (held : Holding) → held_in slots slot ≡ Some held → is_one_order held (order_holding side order) ≡ true
    → (is_same owner order.owner ≡ true) × (held ≡ order_holding side order)

-- the slots name the owner's orders of one side: it is in book order, an own order is held by its slot, and an order
-- that a slot names is the owner's and as the slot says
pub record DoSlotsNameOn (owner : Address) (slots : List (Option Holding)) (side : Side) (orders : List Order) : Type 0 where
  pub in_order : InBookOrder side orders
  pub held : All (IsHeldIn owner slots side) orders
  pub as_held : All (IsAsHeld owner slots side) orders

-- no two of the slots hold one sequence number
abbrev pub AreApart : List (Option Holding) → Type 0
AreApart slots = (slot at : ℕ) (held same : Holding) → held_in slots slot ≡ Some held → held_in slots at ≡ Some same
    → sequence_of held.side held.id ≡ sequence_of same.side same.id → slot ≡ at

-- the slots name the owner's orders on the two sides
pub record DoSlotsName (owner : Address) (slots : List (Option Holding)) (bids asks : List Order) : Type 0 where
  pub on : (side : Side) → DoSlotsNameOn owner slots side (by_side side bids asks)
  pub once : AreApart slots

-- what holds of every owner, slots and sides where they do
abbrev pub WhereNamed : (Address → List (Option Holding) → List Order → List Order → Type 0) → Type 0
WhereNamed Holds = (owner : Address) (slots : List (Option Holding)) (bids asks : List Order) → DoSlotsName owner slots bids asks → Holds owner slots bids asks

-- What a cancel by slots is given of a market.
use Rattle.std.specs.Prelude.{◌≡◌, ℕ, List, Option}
use Rattle.dex_types.specs.declared.addresses.Address.{Address}
use Rattle.dex_types.specs.declared.orders.Order.{Order}
use Rattle.dex_types.specs.Trader.{Holding}
use Rattle.dex_orders.specs.declared.orders_ref.OrdersRef.{OrdersRef}
use Rattle.dex_orders.specs.OrdersAccount.{IsOpen, account_of}
use Rattle.dex_cancel_slots.specs.declared.owned.Owned.{Owned}
use Rattle.dex_cancel_slots.specs.Slots.{DoSlotsName}
use Rattle.dex_accounts.specs.Parts.{AreSoundParts, HasOpen, MarketParts}

-- what a call is given, by what it takes of a market's parts, is of one sound market, in which the owner's account is
-- open, with these bytes
pub record IsGiven {Given : Type 0} (taken_of : MarketParts → Given) (given : Given) (owner : Address) (account : List ℕ) : Type 0 where
  pub whole : MarketParts
  pub sound : AreSoundParts whole
  pub has : HasOpen owner account whole
  pub is : taken_of whole ≡ given

-- the orders of the two sides, which are all that deciding a cancel takes of a market's parts
pub record TwoSides : Type 0 where
  pub bids : List Order
  pub asks : List Order

-- two sides with these bids and asks
abbrev pub sides_by : List Order → List Order → TwoSides
sides_by bids asks = record { bids = bids; asks = asks }

-- the two sides of a market's parts
abbrev pub sides_given : MarketParts → TwoSides
sides_given parts = sides_by parts.bids parts.asks

-- the slots of an account that is shown
abbrev pub slots_in : OrdersRef → List (Option Holding)
slots_in orders = (account_of orders.bytes.now).slots

-- what is read of an account's orders: the account is open, both sides hold, and its slots name its orders there
pub record IsNamed {B A : Type 0} (bids_hold : B → Type 0) (bids_of : B → List Order) (asks_hold : A → Type 0) (asks_of : A → List Order) (own : Owned B A) : Type 0 where
  pub opened : IsOpen own.orders.bytes.now
  pub bids : bids_hold own.bids.now
  pub asks : asks_hold own.asks.now
  pub names : DoSlotsName own.account (slots_in own.orders) (bids_of own.bids.now) (asks_of own.asks.now)

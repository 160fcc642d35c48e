-- What the steps of a market read and write of its accounts, and which market these parts are of.
use Rattle.std.specs.Prelude.{◌≡◌, ℕ, Bool, List, Some}
use Rattle.dex_types.specs.declared.addresses.Address.{Address}
use Rattle.dex_types.specs.declared.orders.Order.{Order}
use Rattle.dex_types.specs.declared.terms.Side.{Side}
use Rattle.dex_types.specs.declared.terms.Side.TheVariants.{Bid, Ask}
use Rattle.dex_types.specs.Accounts.{PlainAccount, PlainMarketAccounts}
use Rattle.dex_types.specs.Market.{Market}
use Rattle.dex_types.specs.Side.{by_side}
use Rattle.dex_types.specs.Soundness.{IsSound}
use Rattle.dex_market.specs.StandsFor.{StandsForMarket, StandsForRequests}
use Rattle.dex_orders.specs.OrdersAccount.{IsOpen}
use Rattle.dex_orders.specs.StandsFor.{StandForTraders}
use Rattle.dex_ring.specs.StandsFor.{StandsForEvents}
use Rattle.dex_slab.specs.Slab.{resting, room_in}
use Rattle.dex_accounts.specs.Owners.{bytes_at, changed_at}

-- the parts of a market: the bytes of its market account, of its request queue and of its event queue, of each side its
-- orders and how many it can hold, and the open-orders accounts
pub record MarketParts : Type 0 where
  pub market : List ℕ
  pub requests : List ℕ
  pub events : List ℕ
  pub bids : List Order
  pub bid_room : ℕ
  pub asks : List Order
  pub ask_room : ℕ
  pub accounts : List PlainAccount

-- the parts that a market's accounts hold
abbrev pub parts_of : PlainMarketAccounts → MarketParts
parts_of accounts = record {
  market = accounts.market;
  requests = accounts.requests;
  events = accounts.events;
  bids = resting Bid accounts.bids;
  bid_room = room_in accounts.bids;
  asks = resting Ask accounts.asks;
  ask_room = room_in accounts.asks;
  accounts = accounts.orders;
}

-- a side's orders
abbrev pub side_orders : Side → MarketParts → List Order
side_orders side parts = by_side side parts.bids parts.asks

-- how many orders a side can hold
abbrev pub side_room : Side → MarketParts → ℕ
side_room side parts = by_side side parts.bid_room parts.ask_room

-- the parts with other orders on a side
abbrev pub with_side : Side → List Order → MarketParts → MarketParts
with_side side orders parts = record parts { bids = by_side side orders parts.bids; asks = by_side side parts.asks orders }

-- the parts with other bytes in the account of an address
abbrev pub with_account : Address → List ℕ → MarketParts → MarketParts
with_account owner bytes parts = record parts { accounts = changed_at owner (λ old. bytes) parts.accounts }

-- the market with these amounts in its vaults and among its fees and rebates, disabled or not
abbrev pub with_amounts : ℕ → ℕ → ℕ → ℕ → ℕ → Bool → Market → Market
with_amounts coin_vault pc_vault coin_fees pc_fees referrer_rebates is_disabled m = record m {
  coin_vault = coin_vault;
  pc_vault = pc_vault;
  coin_fees = coin_fees;
  pc_fees = pc_fees;
  referrer_rebates = referrer_rebates;
  is_disabled = is_disabled;
}

-- the account of this address is open, with these bytes
pub record HasOpen (owner : Address) (bytes : List ℕ) (parts : MarketParts) : Type 0 where
  pub found : bytes_at owner parts.accounts ≡ Some bytes
  pub accepted : IsOpen bytes

-- the parts are those of this market
pub record AreOf (parts : MarketParts) (m : Market) : Type 0 where
  pub market : StandsForMarket parts.market m
  pub requests : StandsForRequests parts.requests m
  pub events : StandsForEvents parts.events m
  pub bids : parts.bids ≡ m.bids
  pub bid_room : parts.bid_room ≡ m.listing.bid_capacity
  pub asks : parts.asks ≡ m.asks
  pub ask_room : parts.ask_room ≡ m.listing.ask_capacity
  pub traders : StandForTraders parts.accounts m.listing.address m.traders

-- the parts are those of a sound market
pub record AreSoundParts (parts : MarketParts) : Type 0 where
  pub market : Market
  pub sound : IsSound market
  pub are : AreOf parts market

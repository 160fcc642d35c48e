-- A market: what never changes of it, and what instructions change.
use Rattle.std.specs.Prelude.{ℕ, ◌+◌, ◌%◌, ◌^◌, List, Bool}
use Rattle.dex_types.specs.declared.addresses.Address.{Address}
use Rattle.dex_types.specs.declared.orders.Order.{Order}
use Rattle.dex_types.specs.declared.terms.Lots.{Lots}
use Rattle.dex_types.specs.declared.terms.Side.{Side}
use Rattle.dex_types.specs.QueuedEvent.{QueuedEvent}
use Rattle.dex_types.specs.Side.{Token, by_side, by_token}
use Rattle.dex_types.specs.Trader.{Traders}

-- what never changes of a market
pub record Listing : Type 0 where
  pub address : Address
  pub authority : Address
  pub coin_mint : Address
  pub pc_mint : Address
  pub sizes : Lots
  pub coin_vault : Address
  pub pc_vault : Address
  pub coin_vault_owner : Address
  pub pc_vault_owner : Address
  pub request_queue : Address
  pub event_queue : Address
  pub bids : Address
  pub asks : Address
  pub vault_signer_nonce : ℕ
  pub pc_dust_threshold : ℕ
  pub fee_rate_bps : ℕ
  pub bid_capacity : ℕ
  pub ask_capacity : ℕ
  pub event_capacity : ℕ

-- a market: the two sides in book order, the pending events, the traders, the vaults and what they hold for fees and
-- rebates, the next sequence number, how many events were ever appended (modulo 2^64), and whether it is disabled
pub record Market : Type 0 where
  pub listing : Listing
  pub bids : List Order
  pub asks : List Order
  pub events : List QueuedEvent
  pub traders : Traders
  pub coin_vault : ℕ
  pub pc_vault : ℕ
  pub coin_fees : ℕ
  pub pc_fees : ℕ
  pub referrer_rebates : ℕ
  pub next_sequence : ℕ
  pub events_appended : ℕ
  pub is_disabled : Bool

-- how many events were ever appended, after more of them; the queue counts them modulo 2^64
abbrev pub events_counted : ℕ → ℕ → ℕ
events_counted count more = (count + more) % 2 ^ 64

-- the resting orders of a side, in book order
abbrev pub orders : Side → Market → List Order
orders side m = by_side side m.bids m.asks

-- how many orders a side can hold
abbrev pub capacity : Side → Market → ℕ
capacity side m = by_side side m.listing.bid_capacity m.listing.ask_capacity

-- the market with these orders on a side and on the opposite one
abbrev pub with_sides : Side → List Order → List Order → Market → Market
with_sides side own opposing m = record m { bids = by_side side own opposing; asks = by_side side opposing own }

-- the market with more in a vault
abbrev pub with_deposit : Token → ℕ → Market → Market
with_deposit token amount m = record m {
  coin_vault = by_token token (m.coin_vault + amount) m.coin_vault;
  pc_vault = by_token token m.pc_vault (m.pc_vault + amount);
}

-- What lent accounts hold, and that a call keeps where they lie.
use Rattle.std.specs.Prelude.{◌≡◌, List}
use Rattle.std.specs.Borrow.{GName}
use Rattle.dex_types.specs.Accounts.{PlainAccount, PlainMarketAccounts}
use Rattle.dex_lent.specs.declared.lent_market.LentMarket.{LentMarket}

-- what a market's lent accounts hold, by what its open-orders accounts do
abbrev pub lent_of : {O : Type 0} → (O → List PlainAccount) → LentMarket O → PlainMarketAccounts
lent_of held lent = record {
  address = lent.address;
  authority = lent.authority;
  market = lent.market.now;
  coin_vault = lent.coin_vault.now;
  pc_vault = lent.pc_vault.now;
  requests = lent.requests.now;
  events = lent.events.now;
  bids = lent.bids.now;
  asks = lent.asks.now;
  orders = held lent.orders.now;
}

-- each account lies where it did: what was written is seen by whoever lent it
pub record KeepsPlaces {O : Type 0} (place : O → GName) (before after : LentMarket O) : Type 0 where
  pub market : after.market.ghost_name ≡ before.market.ghost_name
  pub coin_vault : after.coin_vault.ghost_name ≡ before.coin_vault.ghost_name
  pub pc_vault : after.pc_vault.ghost_name ≡ before.pc_vault.ghost_name
  pub requests : after.requests.ghost_name ≡ before.requests.ghost_name
  pub events : after.events.ghost_name ≡ before.events.ghost_name
  pub bids : after.bids.ghost_name ≡ before.bids.ghost_name
  pub asks : after.asks.ghost_name ≡ before.asks.ghost_name
  pub orders : after.orders.ghost_name ≡ before.orders.ghost_name
  pub lies : place after.orders.now ≡ place before.orders.now

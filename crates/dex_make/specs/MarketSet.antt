-- What a market is made of, when it can be made and can trade, and what never changes of it.
use Rattle.std.specs.Prelude.{◌≡◌, ◌≤◌, false, slice_index}
use Rattle.dex_types.specs.declared.instructions.Ix.{Ix}
use Rattle.dex_types.specs.declared.instructions.Ix.TheVariants.{InitializeMarket}
use Rattle.dex_types.specs.Addresses.{is_same}
use Rattle.dex_types.specs.Market.{Listing}
use Rattle.dex_slab.specs.Nodes.{room_of}
use Rattle.dex_make.specs.declared.market.MarketSet.{MarketSet}
use Rattle.dex_make.specs.declared.market_bytes.InitialTerms.{InitialTerms}
use Rattle.dex_make.specs.declared.parts.MarketPart.{MarketPart}
use Rattle.dex_make.specs.declared.parts.MarketPart.TheVariants.{CoinVault, PcVault, RequestQueue, EventQueue, Bids, Asks, VaultOwner}
use Rattle.dex_make.specs.Derived.{derived}

-- the instruction makes a market
abbrev pub IsInitialize : Ix → Type 0
IsInitialize (InitializeMarket coin_lot pc_lot fee_rate_bps nonce dust) = Unit {0}
IsInitialize _ = ⊥

-- what the instruction says of the market that it makes; no other instruction says anything
abbrev pub initial_terms : Ix → InitialTerms
initial_terms (InitializeMarket coin_lot pc_lot fee_rate_bps nonce dust) =
    record { coin_lot = coin_lot; pc_lot = pc_lot; fee_rate_bps = fee_rate_bps; nonce = nonce; dust = dust }
initial_terms _ = record { coin_lot = 0; pc_lot = 0; fee_rate_bps = 0; nonce = 0; dust = 0 }

-- a market can be made of this: the instruction makes one, the capacities are within their limits, and the last byte of
-- the address is left for the addresses of its parts
pub record IsMarketSet (set : MarketSet) : Type 0 where
  pub instruction : IsInitialize set.ix
  pub some_bids : 1 ≤ set.bid_nodes
  pub few_bids : set.bid_nodes ≤ 65536
  pub some_asks : 1 ≤ set.ask_nodes
  pub few_asks : set.ask_nodes ≤ 65536
  pub some_events : 1 ≤ set.events
  pub few_events : set.events ≤ 65535
  pub last_byte : slice_index set.address.0 31 ≡ 0

-- the market can trade: it has two mints and two lot sizes, and neither mint has the address of one of its parts
pub record CanTrade (set : MarketSet) : Type 0 where
  pub mints : is_same set.coin set.pc ≡ false
  pub coin_lot : 1 ≤ (initial_terms set.ix).coin_lot
  pub pc_lot : 1 ≤ (initial_terms set.ix).pc_lot
  pub coin_apart : (part : MarketPart) → is_same (derived set.address part) set.coin ≡ false
  pub pc_apart : (part : MarketPart) → is_same (derived set.address part) set.pc ≡ false

-- what never changes of the market
abbrev pub listing_of : MarketSet → Listing
listing_of set = record {
  address = set.address;
  authority = set.authority;
  coin_mint = set.coin;
  pc_mint = set.pc;
  sizes = record { coin = (initial_terms set.ix).coin_lot; pc = (initial_terms set.ix).pc_lot };
  coin_vault = derived set.address CoinVault;
  pc_vault = derived set.address PcVault;
  coin_vault_owner = derived set.address VaultOwner;
  pc_vault_owner = derived set.address VaultOwner;
  request_queue = derived set.address RequestQueue;
  event_queue = derived set.address EventQueue;
  bids = derived set.address Bids;
  asks = derived set.address Asks;
  vault_signer_nonce = (initial_terms set.ix).nonce;
  pc_dust_threshold = (initial_terms set.ix).dust;
  fee_rate_bps = (initial_terms set.ix).fee_rate_bps;
  bid_capacity = room_of set.bid_nodes;
  ask_capacity = room_of set.ask_nodes;
  event_capacity = set.events;
}

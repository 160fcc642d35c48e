-- The bytes of a market's accounts as they are made.
use Rattle.std.specs.Prelude.{◌≡◌, ℕ, List, [], ◌∷◌, length, replicate}
use Rattle.dex_fields.specs.declared.market.TheConstants.{OWN_ADDRESS, VAULT_SIGNER_NONCE, COIN_MINT, PC_MINT, COIN_VAULT, PC_VAULT, PC_DUST_THRESHOLD, REQ_Q, EVENT_Q, BIDS, ASKS, COIN_LOT_SIZE, PC_LOT_SIZE, FEE_RATE_BPS}
use Rattle.dex_fields.specs.Empty.{empty_account}
use Rattle.dex_fields.specs.Writes.{Write, bytes_write, number_write, wrote}
use Rattle.dex_ring.specs.Blank as queue
use Rattle.dex_slab.specs.Blank as slab
use Rattle.dex_types.specs.declared.terms.Side.TheVariants.{Bid, Ask}
use Rattle.dex_types.specs.Accounts.{PlainMarketAccounts}
use Rattle.dex_make.specs.declared.market.MarketSet.{MarketSet}
use Rattle.dex_make.specs.declared.market_bytes.InitialTerms.{InitialTerms}
use Rattle.dex_make.specs.declared.parts.MarketPart.TheVariants.{CoinVault, PcVault, RequestQueue, EventQueue, Bids, Asks, VaultOwner}
use Rattle.dex_make.specs.Derived.{derived}
use Rattle.dex_make.specs.MarketSet.{initial_terms}
use Rattle.dex_make.specs.TokenBytes.{wallet_bytes}

-- the addresses of a market account
abbrev pub address_writes : MarketSet → List Write
address_writes set =
    bytes_write OWN_ADDRESS set.address.0
    ∷ bytes_write COIN_MINT set.coin.0
    ∷ bytes_write PC_MINT set.pc.0
    ∷ bytes_write COIN_VAULT (derived set.address CoinVault).0
    ∷ bytes_write PC_VAULT (derived set.address PcVault).0
    ∷ bytes_write REQ_Q (derived set.address RequestQueue).0
    ∷ bytes_write EVENT_Q (derived set.address EventQueue).0
    ∷ bytes_write BIDS (derived set.address Bids).0
    ∷ bytes_write ASKS (derived set.address Asks).0
    ∷ []

-- the numbers of a market account that are not zero as it is made
abbrev pub term_writes : InitialTerms → List Write
term_writes terms =
    number_write VAULT_SIGNER_NONCE terms.nonce
    ∷ number_write PC_DUST_THRESHOLD terms.dust
    ∷ number_write COIN_LOT_SIZE terms.coin_lot
    ∷ number_write PC_LOT_SIZE terms.pc_lot
    ∷ number_write FEE_RATE_BPS terms.fee_rate_bps
    ∷ []

-- the market account as it is made
unfoldable pub market_bytes : MarketSet → List ℕ
market_bytes set = wrote (wrote (empty_account 388 3) (address_writes set)) (term_writes (initial_terms set.ix))

-- the addresses that stand in a market account have 32 bytes each
pub record HasAddresses (set : MarketSet) : Type 0 where
  pub address : length set.address.0 ≡ 32
  pub coin : length set.coin.0 ≡ 32
  pub pc : length set.pc.0 ≡ 32

-- a request queue as it is made
abbrev pub request_bytes : List ℕ
request_bytes = empty_account 5132 9

-- an open-orders account that is reserved and not opened
unfoldable pub blank_orders : List ℕ
blank_orders = replicate 3228 0

-- a market's accounts as they are made
abbrev pub made_accounts : MarketSet → PlainMarketAccounts
made_accounts set = record {
  address = set.address;
  authority = set.authority;
  market = market_bytes set;
  coin_vault = wallet_bytes set.coin (derived set.address VaultOwner) 0;
  pc_vault = wallet_bytes set.pc (derived set.address VaultOwner) 0;
  requests = request_bytes;
  events = queue.blank_queue (queue.made_size set.events);
  bids = slab.blank_side Bid (slab.made_size set.bid_nodes);
  asks = slab.blank_side Ask (slab.made_size set.ask_nodes);
  orders = [];
}

-- The market that a market's accounts tell, read account by account.
use Rattle.std.specs.Prelude.{◌==◌}
use Rattle.dex_types.specs.declared.terms.Side.TheVariants.{Bid, Ask}
use Rattle.dex_types.specs.Accounts.{PlainMarketAccounts}
use Rattle.dex_types.specs.Market.{Listing, Market}
use Rattle.dex_types.specs.Soundness.{IsSound}
use Rattle.dex_market.specs.MarketAccount.{market_words, sizes_of}
use Rattle.dex_market.specs.RequestQueue.{next_sequence}
use Rattle.dex_orders.specs.StandsFor.{traders_of}
use Rattle.dex_ring.specs.Ring.{ring_of}
use Rattle.dex_slab.specs.Slab.{resting, room_in}
use Rattle.dex_token.specs.TokenAccount.{wallet_words}
use Rattle.dex_accounts.specs.StandsFor.{StandsFor}

-- what never changes of the market
abbrev pub listing_in : PlainMarketAccounts → Listing
listing_in accounts = record {
  address = accounts.address;
  authority = accounts.authority;
  coin_mint = (market_words accounts.market).terms.coin_mint;
  pc_mint = (market_words accounts.market).terms.pc_mint;
  sizes = sizes_of (market_words accounts.market);
  coin_vault = (market_words accounts.market).terms.coin_vault;
  pc_vault = (market_words accounts.market).terms.pc_vault;
  coin_vault_owner = (wallet_words accounts.coin_vault).owner;
  pc_vault_owner = (wallet_words accounts.pc_vault).owner;
  request_queue = (market_words accounts.market).terms.req_q;
  event_queue = (market_words accounts.market).terms.event_q;
  bids = (market_words accounts.market).terms.bids;
  asks = (market_words accounts.market).terms.asks;
  vault_signer_nonce = (market_words accounts.market).terms.vault_signer_nonce;
  pc_dust_threshold = (market_words accounts.market).terms.pc_dust_threshold;
  fee_rate_bps = (market_words accounts.market).terms.fee_rate_bps;
  bid_capacity = room_in accounts.bids;
  ask_capacity = room_in accounts.asks;
  event_capacity = (ring_of accounts.events).capacity;
}

-- the market
unfoldable pub market_in : PlainMarketAccounts → Market
market_in accounts = record {
  listing = listing_in accounts;
  bids = resting Bid accounts.bids;
  asks = resting Ask accounts.asks;
  events = (ring_of accounts.events).events;
  traders = traders_of accounts.orders;
  coin_vault = (wallet_words accounts.coin_vault).amount;
  pc_vault = (wallet_words accounts.pc_vault).amount;
  coin_fees = (market_words accounts.market).coin_fees_accrued;
  pc_fees = (market_words accounts.market).pc_fees_accrued;
  referrer_rebates = (market_words accounts.market).referrer_rebates_accrued;
  next_sequence = next_sequence accounts.requests;
  events_appended = (ring_of accounts.events).seq_num;
  is_disabled = (market_words accounts.market).account_flags == 131;
}

-- the accounts are those of a sound market
pub record AreSound (accounts : PlainMarketAccounts) : Type 0 where
  pub sound : IsSound (market_in accounts)
  pub stands : StandsFor accounts (market_in accounts)

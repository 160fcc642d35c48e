-- Which market the bytes of its market account and of its request queue stand for.
use Rattle.std.specs.Prelude.{◌≡◌, ℕ, ◌+◌, ◌-◌, List, if◌then◌else◌}
use Rattle.dex_types.specs.Market.{Market, Listing}
use Rattle.dex_market.specs.MarketAccount.{MarketTerms, MarketWords, IsMarket, market_words}
use Rattle.dex_market.specs.RequestQueue.{IsRequestQueue, next_sequence}

-- the terms that a listed market's account holds
abbrev pub terms_of : Listing → MarketTerms
terms_of listing = record {
  own_address = listing.address;
  vault_signer_nonce = listing.vault_signer_nonce;
  coin_mint = listing.coin_mint;
  pc_mint = listing.pc_mint;
  coin_vault = listing.coin_vault;
  pc_vault = listing.pc_vault;
  pc_dust_threshold = listing.pc_dust_threshold;
  req_q = listing.request_queue;
  event_q = listing.event_queue;
  bids = listing.bids;
  asks = listing.asks;
  coin_lot_size = listing.sizes.coin;
  pc_lot_size = listing.sizes.pc;
  fee_rate_bps = listing.fee_rate_bps;
}

-- the words that a market's account holds: deposits are what a vault holds beyond fees and rebates
abbrev pub words_of : Market → MarketWords
words_of market = record {
  terms = terms_of market.listing;
  account_flags = if market.is_disabled then 131 else 3;
  coin_deposits_total = market.coin_vault - market.coin_fees;
  coin_fees_accrued = market.coin_fees;
  pc_deposits_total = market.pc_vault - (market.pc_fees + market.referrer_rebates);
  pc_fees_accrued = market.pc_fees;
  referrer_rebates_accrued = market.referrer_rebates;
}

-- the bytes are the account of this market
pub record StandsForMarket (bytes : List ℕ) (market : Market) : Type 0 where
  pub accepted : IsMarket bytes
  pub words : market_words bytes ≡ words_of market

-- the bytes are the request queue of this market
pub record StandsForRequests (bytes : List ℕ) (market : Market) : Type 0 where
  pub accepted : IsRequestQueue bytes
  pub next : next_sequence bytes ≡ market.next_sequence

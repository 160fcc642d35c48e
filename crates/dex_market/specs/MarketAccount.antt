-- What a market account says, word by word, and which bytes are a market account.
use Rattle.std.specs.Prelude.{◌≡◌, ℕ, ◌+◌, ◌<◌, ◌≤◌, ◌⊎◌, false, List, [], ◌∷◌, length, slice_index_or}
use Rattle.dex_fields.specs.declared.field.Field.{Field}
use Rattle.dex_fields.specs.declared.market.TheConstants.{ACCOUNT_FLAGS, OWN_ADDRESS, VAULT_SIGNER_NONCE, COIN_MINT, PC_MINT, COIN_VAULT, COIN_DEPOSITS_TOTAL, COIN_FEES_ACCRUED, PC_VAULT, PC_DEPOSITS_TOTAL, PC_FEES_ACCRUED, PC_DUST_THRESHOLD, REQ_Q, EVENT_Q, BIDS, ASKS, COIN_LOT_SIZE, PC_LOT_SIZE, FEE_RATE_BPS, REFERRER_REBATES_ACCRUED}
use Rattle.dex_fields.specs.Bytes.{bytes_in, number_in}
use Rattle.dex_fields.specs.Frame.{IsFramed}
use Rattle.dex_types.specs.declared.addresses.Address.{Address}
use Rattle.dex_types.specs.declared.terms.Lots.{Lots}
use Rattle.dex_types.specs.Addresses.{is_same}
use Rattle.dex_types.specs.Side.{Token, by_token}

-- the address that stands in a field
abbrev pub address_in : List ℕ → Field → Address
address_in bytes field = record { 0 = bytes_in bytes field }

-- the words of a market account that never change
pub record MarketTerms : Type 0 where
  pub own_address : Address
  pub vault_signer_nonce : ℕ
  pub coin_mint : Address
  pub pc_mint : Address
  pub coin_vault : Address
  pub pc_vault : Address
  pub pc_dust_threshold : ℕ
  pub req_q : Address
  pub event_q : Address
  pub bids : Address
  pub asks : Address
  pub coin_lot_size : ℕ
  pub pc_lot_size : ℕ
  pub fee_rate_bps : ℕ

-- the words of a market account
pub record MarketWords : Type 0 where
  pub terms : MarketTerms
  pub account_flags : ℕ
  pub coin_deposits_total : ℕ
  pub coin_fees_accrued : ℕ
  pub pc_deposits_total : ℕ
  pub pc_fees_accrued : ℕ
  pub referrer_rebates_accrued : ℕ

-- the terms that stand in the bytes
abbrev pub market_terms : List ℕ → MarketTerms
market_terms bytes = record {
  own_address = address_in bytes OWN_ADDRESS;
  vault_signer_nonce = number_in bytes VAULT_SIGNER_NONCE;
  coin_mint = address_in bytes COIN_MINT;
  pc_mint = address_in bytes PC_MINT;
  coin_vault = address_in bytes COIN_VAULT;
  pc_vault = address_in bytes PC_VAULT;
  pc_dust_threshold = number_in bytes PC_DUST_THRESHOLD;
  req_q = address_in bytes REQ_Q;
  event_q = address_in bytes EVENT_Q;
  bids = address_in bytes BIDS;
  asks = address_in bytes ASKS;
  coin_lot_size = number_in bytes COIN_LOT_SIZE;
  pc_lot_size = number_in bytes PC_LOT_SIZE;
  fee_rate_bps = number_in bytes FEE_RATE_BPS;
}

-- the words that stand in the bytes
abbrev pub market_words : List ℕ → MarketWords
market_words bytes = record {
  terms = market_terms bytes;
  account_flags = number_in bytes ACCOUNT_FLAGS;
  coin_deposits_total = number_in bytes COIN_DEPOSITS_TOTAL;
  coin_fees_accrued = number_in bytes COIN_FEES_ACCRUED;
  pc_deposits_total = number_in bytes PC_DEPOSITS_TOTAL;
  pc_fees_accrued = number_in bytes PC_FEES_ACCRUED;
  referrer_rebates_accrued = number_in bytes REFERRER_REBATES_ACCRUED;
}

-- the addresses of the terms, in the order in which they stand in the account
abbrev pub addresses_of : MarketTerms → List Address
addresses_of t =
    t.own_address ∷ t.coin_mint ∷ t.pc_mint ∷ t.coin_vault ∷ t.pc_vault ∷ t.req_q ∷ t.event_q ∷ t.bids ∷ t.asks ∷ []

-- terms that a market can have
pub record AreTerms (t : MarketTerms) : Type 0 where
  pub mints : is_same t.pc_mint t.coin_mint ≡ false
  -- no vault, queue or side has an address that stands before it
  pub addresses : (earlier later : ℕ) (d : Address) → earlier < later → 3 ≤ later → later < 9
      → is_same (slice_index_or (addresses_of t) later d) (slice_index_or (addresses_of t) earlier d) ≡ false
  pub coin_lot : 0 < t.coin_lot_size
  pub pc_lot : 0 < t.pc_lot_size

-- a market's flags: Initialized and Market, and Disabled where it is disabled
abbrev pub AreMarketFlags : ℕ → Type 0
AreMarketFlags flags = (flags ≡ 3) ⊎ (flags ≡ 131)

-- the bytes are a market account
pub record IsMarket (bytes : List ℕ) : Type 0 where
  pub size : length bytes ≡ 388
  pub framed : IsFramed bytes
  pub flags : AreMarketFlags (market_words bytes).account_flags
  pub terms : AreTerms (market_terms bytes)

-- the lot sizes that a market's words state
abbrev pub sizes_of : MarketWords → Lots
sizes_of words = record { coin = words.terms.coin_lot_size; pc = words.terms.pc_lot_size }

-- the native amount of a token in its vault, by the market's words
abbrev pub vault_of : Token → MarketWords → ℕ
vault_of token words =
    by_token token
    (words.coin_deposits_total + words.coin_fees_accrued)
    (words.pc_deposits_total + (words.pc_fees_accrued + words.referrer_rebates_accrued))

-- The accounts that cells leave are accepted, as those with which they started.
use Rattle.std.proofs.Common.{◌≡◌, ℕ, ◌≤◌, List, [], ◌∷◌, ◌++◌, length, map, get_or, Option, Some, None, refl, sym, ap, ◌∙◌, subst, arith}
use Rattle.dex_world.proofs.Common.{Address, All-map, Call, Listing, Market, PlainAccount, PlainAccounts, PlainMarketAccounts, acted_of, flat_map, flat_map-map, is_same, length-map, list_any, market_after, step-keeps, step_of}
use Rattle.dex_state.specs.Accepted.{HasFew, AreApart, HasMints, IsMintOf}
use Rattle.dex_replay.proofs.Common.{All, AreAccepted, AreCells, CellState, CellsState, IsAccepted, IsMarketCell, IsWallet, IsWalletCell, MarketCellState, PlainScript, WalletWords, account_in, address_of, addresses_of, all_of_market, balance_of, closed, market_words, times, wallet_words, wallet_words-with_amount}
use Rattle.dex_accounts.specs.Decoded.{listing_in, market_in}
use Rattle.std.specs.Option.{IfSome}
use Rattle.dex_token.specs.MintAccount.{IsMint}
use Rattle.dex_replay.proofs.MappedLists.{All-unmap, flat_map-agree, map-map}
use Rattle.dex_replay.proofs.Starts.{AreOfScript, start_account, wallet-addresses}

-- ---- of one market

-- its listing stays
pub market_after-listing : (calls : List Call) (m : Market) → (market_after m calls).listing ≡ m.listing
market_after-listing [] m = refl
market_after-listing (call ∷ calls) m = market_after-listing calls (step_of call m).market ∙ (step-keeps (acted_of call).request call.seen m).listing

-- the listing that accounts tell
pub listing-in : (accounts : PlainMarketAccounts) → (market_in accounts).listing ≡ listing_in accounts
unfolding market_in
listing-in accounts = refl

pub listing-stays : (cell : MarketCellState) → IsMarketCell cell → listing_in cell.accounts ≡ listing_in cell.start
listing-stays cell is =
    sym (listing-in cell.accounts) ∙ ap (λ (m : Market). m.listing) is.end_is ∙ market_after-listing cell.calls (market_in cell.start) ∙ listing-in cell.start

-- the parts that a listing names
abbrev listed_parts : Listing → List Address
listed_parts listing = listing.coin_vault ∷ listing.pc_vault ∷ listing.request_queue ∷ listing.event_queue ∷ listing.bids ∷ listing.asks ∷ []

all-of-market : (cell : MarketCellState) → IsMarketCell cell → all_of_market cell.accounts ≡ all_of_market cell.start
all-of-market cell is =
    λ i. (is.one_market.address i ∷ listed_parts (listing-stays cell is i)) ++ is.one_market.orders i

-- ---- of one wallet

pub mint-stays : (cell : CellState) → IsWalletCell cell → (wallet_words cell.bytes).mint ≡ (wallet_words cell.start).mint
mint-stays cell is =
    ap (λ (bytes : List ℕ). (wallet_words bytes).mint) is.others
    ∙ ap (λ (words : WalletWords). words.mint) (wallet_words-with_amount cell.start (balance_of cell.bytes) (ap balance_of (sym is.others)))

-- ---- of all

module _ (script : PlainScript) (cells : CellsState) (own : AreOfScript script cells) (kept : AreCells cells) where
  abbrev last : PlainAccounts
  last = (closed cells).accounts

  still-mint : (address : Address) → IsMintOf script.start address → IsMintOf last address
  still-mint address is =
      ap (λ (mints : List PlainAccount). list_any (λ (mint : PlainAccount). is_same address mint.address) mints) own.mints ∙ is

  wallet-mint : (cell : CellState) → IsWalletCell cell → IsMintOf script.start (wallet_words cell.start).mint → IsMintOf last (wallet_words cell.bytes).mint
  wallet-mint cell is of_start = still-mint (wallet_words cell.bytes).mint (subst (λ (mint : Address). IsMintOf script.start mint) (sym (mint-stays cell is)) of_start)

  market-mints : (cell : MarketCellState) → IsMarketCell cell → HasMints script.start cell.start → HasMints last cell.accounts
  market-mints cell is of_start = record {
    coin = still-mint (market_words cell.accounts.market).terms.coin_mint
        (subst (λ (listing : Listing). IsMintOf script.start listing.coin_mint) (sym (listing-stays cell is)) of_start.coin);
    pc = still-mint (market_words cell.accounts.market).terms.pc_mint
        (subst (λ (listing : Listing). IsMintOf script.start listing.pc_mint) (sym (listing-stays cell is)) of_start.pc);
  }

  -- no address is another one than at the start
  same-addresses : addresses_of last ≡ addresses_of script.start
  same-addresses =
      let mints : map address_of cells.mints ≡ map address_of script.start.mints = ap (λ (some : List PlainAccount). map address_of some) own.mints in
      let wallets : map address_of (map account_in cells.wallets) ≡ map address_of script.start.wallets =
      map-map account_in address_of cells.wallets ∙ wallet-addresses script cells own in
      let markets : flat_map all_of_market (map (λ (cell : MarketCellState). cell.accounts) cells.markets) ≡ flat_map all_of_market script.start.markets =
      flat_map-map all_of_market (λ (cell : MarketCellState). cell.accounts) cells.markets
      ∙ flat_map-agree (λ (cell : MarketCellState). all_of_market cell.accounts) (λ (cell : MarketCellState). all_of_market cell.start) cells.markets
      (λ k d within. all-of-market (get_or cells.markets k d) (kept.markets k d within))
      ∙ sym (flat_map-map all_of_market (λ (cell : MarketCellState). cell.start) cells.markets)
      ∙ ap (λ (some : List PlainMarketAccounts). flat_map all_of_market some) own.markets in
      λ i. mints i ++ (wallets i ++ markets i)

  few-orders : (cell : MarketCellState) → IsMarketCell cell → HasFew script.limits cell.start → HasFew script.limits cell.accounts
  few-orders cell is few =
      let now = length-map cell.accounts.orders address_of in
      let first = length-map cell.start.orders address_of in
      let same : ◌≡◌ {A = ℕ} (length (map address_of cell.accounts.orders)) (length (map address_of cell.start.orders)) =
      ap (λ (addresses : List Address). length addresses) is.one_market.orders in
      omega (arith, few, now, first, same)

  module _ (accepted : AreAccepted script.limits script.start) where
    -- what holds of each market of the start holds of each cell's
    each-start : (P : PlainMarketAccounts → Type 0) → All P script.start.markets → All (λ (cell : MarketCellState). P cell.start) cells.markets
    each-start P all = All-unmap P (λ (cell : MarketCellState). cell.start) cells.markets (subst (All P) (sym own.markets) all)

    each-wallet : (P : PlainAccount → Type 0) → All P script.start.wallets → All (λ (cell : CellState). P (start_account cell)) cells.wallets
    each-wallet P all = All-unmap P start_account cells.wallets (subst (All P) (sym own.wallets) all)

    few : {A B : Type 0} (f : A → B) (xs : List A) (ys : List B) (most : ℕ) → map f xs ≡ ys → length ys ≤ most → length xs ≤ most
    few f xs ys most same most_is =
        let lengths = length-map xs f in
        let equal : ◌≡◌ {A = ℕ} (length (map f xs)) (length ys) = ap (λ zs. length zs) same in
        omega (arith, lengths, equal, most_is)

    pub last-accepted : AreAccepted script.limits last
    last-accepted =
        let markets = each-start (HasMints script.start) accepted.market_mints in
        let wallets = each-wallet (λ (wallet : PlainAccount). IsMintOf script.start (wallet_words wallet.bytes).mint) accepted.wallet_mints in
        let orders = each-start (HasFew script.limits) accepted.few_orders in
        record {
          mints = subst (λ (some : List PlainAccount). All (λ (mint : PlainAccount). IsMint mint.bytes) some) (sym own.mints) accepted.mints;
          wallets = All-map (λ (wallet : PlainAccount). IsWallet wallet.bytes) account_in cells.wallets (λ k d within. (kept.wallets k d within).accepted);
          markets = All-map IsAccepted (λ (cell : MarketCellState). cell.accounts) cells.markets (λ k d within. (kept.markets k d within).accepted);
          wallet_mints = All-map (λ (wallet : PlainAccount). IsMintOf last (wallet_words wallet.bytes).mint) account_in cells.wallets
              (λ k d within. wallet-mint (get_or cells.wallets k d) (kept.wallets k d within) (wallets k d within));
          market_mints = All-map (HasMints last) (λ (cell : MarketCellState). cell.accounts) cells.markets
              (λ k d within. market-mints (get_or cells.markets k d) (kept.markets k d within) (markets k d within));
          once = λ address. subst (λ (addresses : List Address). times address addresses ≤ 1) (sym same-addresses) (accepted.once address);
          srm = subst (λ (role : Option Address). IfSome role (IsMintOf last)) (sym own.srm) (some-mint script.start.srm accepted.srm);
          msrm = subst (λ (role : Option Address). IfSome role (IsMintOf last)) (sym own.msrm) (some-mint script.start.msrm accepted.msrm);
          apart = subst (λ (srm : Option Address). AreApart srm cells.msrm) (sym own.srm)
              (subst (λ (msrm : Option Address). AreApart script.start.srm msrm) (sym own.msrm) accepted.apart);
          within = accepted.within;
          few_mints = subst (λ (some : List PlainAccount). length some ≤ script.limits.mints) (sym own.mints) accepted.few_mints;
          few_wallets = subst (λ (n : ℕ). n ≤ script.limits.wallets) (sym (length-map cells.wallets account_in))
              (few start_account cells.wallets script.start.wallets script.limits.wallets own.wallets accepted.few_wallets);
          few_markets = subst (λ (n : ℕ). n ≤ script.limits.markets) (sym (length-map cells.markets (λ (cell : MarketCellState). cell.accounts)))
              (few (λ (cell : MarketCellState). cell.start) cells.markets script.start.markets script.limits.markets own.markets accepted.few_markets);
          few_orders = All-map (HasFew script.limits) (λ (cell : MarketCellState). cell.accounts) cells.markets
              (λ k d within. few-orders (get_or cells.markets k d) (kept.markets k d within) (orders k d within));
        }
      where
        some-mint : (role : Option Address) → IfSome role (IsMintOf script.start) → IfSome role (IsMintOf last)
        some-mint None is = tt
        some-mint (Some address) is = still-mint address is

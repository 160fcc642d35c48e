-- What cells leave at the end is what items leave that made their world.
use Rattle.std.proofs.Common.{◌≡◌, List, [], ◌∷◌, map, refl, sym, ap, ◌∙◌, subst}
use Rattle.dex_world.proofs.Common.{All-head, All-tail, AllZip, MarketState, PlainAccount, PlainMarketAccounts, WalletState, World}
use Rattle.dex_replay.proofs.Common.{All, AreAccepted, AreCells, AreOfOneMarket, CellState, CellsState, IsLeftBy, IsWalletCell, Item, MarketCellState, PlainMarketJournal, PlainScript, PlainWalletJournal, StandsFor, account_in, address_of, balance_of, closed, market_journal_in, market_state_of, wallet_journal_in, wallet_state_of, with_amounts, world_after, world_of}
use Rattle.dex_replay.specs.Replays.{IsOfStart}
use Rattle.dex_replay.proofs.LastAccounts.{last-accepted}
use Rattle.dex_replay.proofs.MappedLists.{AllZip-maps, map-map}
use Rattle.dex_replay.proofs.Starts.{AreOfScript, its-address, market-addresses, start_account, wallet-addresses}

-- wallets are their starting accounts with their last amounts
amounts-of : (cells : List CellState) → All IsWalletCell cells → map account_in cells ≡ with_amounts (map start_account cells) (map wallet_state_of cells)
amounts-of [] kept = refl
amounts-of (cell ∷ cells) kept =
    λ i. record { address = cell.address; bytes = (All-head IsWalletCell cell cells kept).others i }
    ∷ amounts-of cells (All-tail IsWalletCell cell cells kept) i

module _ (script : PlainScript) (cells : CellsState) (own : AreOfScript script cells) (kept : AreCells cells) where
  pub of-start : IsOfStart script (closed cells)
  of-start = record {
    mints = own.mints;
    srm = own.srm;
    msrm = own.msrm;
    wallets = map-map account_in address_of cells.wallets ∙ wallet-addresses script cells own;
    markets = subst (λ (first : List PlainMarketAccounts). AllZip AreOfOneMarket first (map (λ (cell : MarketCellState). cell.accounts) cells.markets)) own.markets
        (AllZip-maps AreOfOneMarket (λ (cell : MarketCellState). cell.start) (λ (cell : MarketCellState). cell.accounts) cells.markets
        (λ k d within. (kept.markets k d within).one_market));
    market_journals = map-map market_journal_in (λ (journal : PlainMarketJournal). journal.address) cells.markets ∙ market-addresses script cells own (its-address cells kept);
    wallet_journals = map-map wallet_journal_in (λ (journal : PlainWalletJournal). journal.address) cells.wallets ∙ wallet-addresses script cells own;
  }

  pub is-left : (items : List Item) → AreAccepted script.limits script.start → world_of cells ≡ world_after script items → IsLeftBy script items (closed cells)
  is-left items accepted ended =
      let last : World = world_after script items in
      let end_markets : map market_state_of cells.markets ≡ last.markets = ap (λ (world : World). world.markets) ended in
      let end_wallets : map wallet_state_of cells.wallets ≡ last.wallets = ap (λ (world : World). world.wallets) ended in
      record {
        start = of-start;
        accepted = last-accepted script cells own kept accepted;
        markets = map-map market_journal_in (λ (journal : PlainMarketJournal). journal.entries) cells.markets
            ∙ sym (map-map market_state_of (λ (state : MarketState). state.entries) cells.markets)
            ∙ ap (λ (states : List MarketState). map (λ (state : MarketState). state.entries) states) end_markets;
        wallets = map-map wallet_journal_in (λ (journal : PlainWalletJournal). journal.entries) cells.wallets
            ∙ sym (map-map wallet_state_of (λ (state : WalletState). state.entries) cells.wallets)
            ∙ ap (λ (states : List WalletState). map (λ (state : WalletState). state.entries) states) end_wallets;
        stand = subst (λ (states : List MarketState). AllZip (λ (accounts : PlainMarketAccounts) (state : MarketState). StandsFor accounts state.market)
            (map (λ (cell : MarketCellState). cell.accounts) cells.markets) states) end_markets
            (AllZip-maps (λ (accounts : PlainMarketAccounts) (state : MarketState). StandsFor accounts state.market) (λ (cell : MarketCellState). cell.accounts)
            market_state_of cells.markets (λ k d within. (kept.markets k d within).sound.stands));
        amounts = amounts-of cells.wallets kept.wallets
            ∙ ap (λ (accounts : List PlainAccount). with_amounts accounts (map wallet_state_of cells.wallets)) own.wallets
            ∙ ap (λ (states : List WalletState). with_amounts script.start.wallets states) end_wallets;
        balances = map-map account_in (λ (account : PlainAccount). balance_of account.bytes) cells.wallets
            ∙ sym (map-map wallet_state_of (λ (state : WalletState). state.seen.balance) cells.wallets)
            ∙ ap (λ (states : List WalletState). map (λ (state : WalletState). state.seen.balance) states) end_wallets;
      }

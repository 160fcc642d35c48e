-- Each row of a script finds the cells that it names, with room for one entry more.
use Rattle.std.proofs.Common.{◌≡◌, ℕ, ◌+◌, ◌≤◌, Bool, true, cond, List, ◌∷◌, ◌++◌, length, map, get_or, sym, ap, ◌∙◌, subst, arith}
use Rattle.dex_world.proofs.Common.{Address, Call, Listing, PlainMarketAccounts, PlainRow, is_same, length-map, list_any, names, sum_by-append, sum_by-cons}
use Rattle.dex_replay.proofs.Common.{All, CanAct, CellState, CellsState, IsRowOf, MarketCellState, PlainScript, address_of, count_by, has_account, is_among, is_market, market_state_of, rows_naming, rows_on, wallet_state_of, world_of}
use Rattle.dex_cell.specs.CellState as market
use Rattle.dex_wallet.specs.CellState as wallet
use Rattle.dex_act.proofs.CellLists.{is_among-any}
use Rattle.dex_replay.proofs.Counting.{HasFew, HasFewMoves, IsCounted}
use Rattle.dex_replay.proofs.LastAccounts.{listing-in}
use Rattle.dex_replay.proofs.MappedLists.{All-unmap, list_any-map}
use Rattle.dex_script_types.proofs.Roles.{roles-all}
use Rattle.dex_replay.proofs.Starts.{AreOfScript, HasItsAddress, market-addresses, wallet-addresses}

module _ (script : PlainScript) (cells : CellsState) (own : AreOfScript script cells) (its : All HasItsAddress cells.markets) where
  abbrev IsHere : Address → Type 0
  IsHere address = is_among address cells.wallets ≡ true

  account-here : (address : Address) → has_account address script.start.wallets ≡ true → IsHere address
  account-here address known =
      is_among-any address cells.wallets
      ∙ ap (λ (addresses : List Address). list_any (is_same address) addresses) (wallet-addresses script cells own)
      ∙ list_any-map (is_same address) address_of script.start.wallets
      ∙ known

  market-here : (row : PlainRow) → IsRowOf script.start row → is_market row.market cells.markets ≡ true
  market-here row fits =
      sym (list_any-map (is_same row.market) (λ (cell : MarketCellState). cell.accounts.address) cells.markets)
      ∙ ap (λ (addresses : List Address). list_any (is_same row.market) addresses) (market-addresses script cells own its)
      ∙ list_any-map (is_same row.market) (λ (accounts : PlainMarketAccounts). accounts.address) script.start.markets
      ∙ fits.market

-- ---- room

count-split : (test : PlainRow → Bool) (done between rest rows : List PlainRow) (row : PlainRow) → done ++ (between ++ row ∷ rest) ≡ rows
    → count_by test rows ≡ count_by test done + (count_by test between + (cond (test row) 1 0 + count_by test rest))
count-split test done between rest rows row whole =
    let one : PlainRow → ℕ = λ (row : PlainRow). cond (test row) 1 0 in
    ap (λ (all : List PlainRow). count_by test all) (sym whole)
    ∙ sum_by-append one done (between ++ row ∷ rest)
    ∙ ap (λ (n : ℕ). count_by test done + n) (sum_by-append one between (row ∷ rest) ∙ ap (λ (n : ℕ). count_by test between + n) (sum_by-cons one row rest))

-- a row after those that are done, and after some more
module _ (script : PlainScript) (cells : CellsState) (own : AreOfScript script cells) (its : All HasItsAddress cells.markets)
    (done between rest : List PlainRow) (row : PlainRow) (whole : done ++ (between ++ row ∷ rest) ≡ script.rows) (counted : IsCounted done (world_of cells)) where
  market-spare : (cell : MarketCellState) → HasItsAddress cell → cell.room ≡ rows_on cell.start.address script.rows → HasFew done (market_state_of cell)
      → is_same row.market cell.accounts.address ≡ true → market.HasSpare cell
  market-spare cell here room few same =
      let calls = length-map cell.calls (λ (call : Call). call.entry) in
      let done_on : length (map (λ (call : Call). call.entry) cell.calls) ≤ rows_on cell.accounts.address done =
      subst (λ (address : Address). length (map (λ (call : Call). call.entry) cell.calls) ≤ rows_on address done) (ap (λ (listing : Listing). listing.address) (listing-in cell.accounts)) few in
      let all_on : cell.room ≡ rows_on cell.accounts.address script.rows = room ∙ ap (λ (address : Address). rows_on address script.rows) (sym here) in
      let one : ◌≡◌ {A = ℕ} (cond (is_same row.market cell.accounts.address) 1 0) 1 = ap (λ (b : Bool). cond b 1 0) same in
      let split = count-split (λ (one : PlainRow). is_same one.market cell.accounts.address) done between rest script.rows row whole in
      omega (arith, calls, done_on, all_on, one, split)

  wallet-spare : (cell : CellState) → cell.room ≡ rows_naming cell.address script.rows → HasFewMoves done (wallet_state_of cell)
      → names row cell.address ≡ true → wallet.HasSpare cell
  wallet-spare cell room few named =
      let one : ◌≡◌ {A = ℕ} (cond (names row cell.address) 1 0) 1 = ap (λ (b : Bool). cond b 1 0) named in
      let split = count-split (λ (one : PlainRow). names one cell.address) done between rest script.rows row whole in
      omega (arith, room, few, one, split)

  pub can-act : IsRowOf script.start row → CanAct row cells
  can-act fits =
      let few = All-unmap (HasFew done) market_state_of cells.markets counted.markets in
      let few_moves = All-unmap (HasFewMoves done) wallet_state_of cells.wallets counted.wallets in
      record {
        market = market-here script cells own its row fits;
        wallets = roles-all (IsHere script cells own its) script.start (account-here script cells own its) row fits;
        market_spare = λ k d within. market-spare (get_or cells.markets k d) (its k d within) (own.market_room k d within) (few k d within);
        wallet_spare = λ k d within. wallet-spare (get_or cells.wallets k d) (own.wallet_room k d within) (few_moves k d within);
      }

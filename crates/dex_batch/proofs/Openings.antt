-- The cells with which a script starts: all its rows can act on them.
use Rattle.std.proofs.Common.{◌≡◌, ◌+◌, ◌≤◌, true, List, [], ◌∷◌, map, refl, sym, ap, ◌∙◌, subst, arith, All}
use Rattle.dex_world.proofs.Common.{Address, All-weaker, AllZip, PlainAccount, PlainMarketAccounts, PlainRow, WalletState, World, fold, is_same, list_any}
use Rattle.dex_replay.proofs.Common.{AreCells, CellsState, HasNoSwap, IsReplayOf, IsRowOf, IsScript, MarketCellState, PlainScript, address_of, closed, has_account, is_among, is_market, opened, wallet_state_of}
use Rattle.dex_world.specs.declared.places.RowPlaces.{RowPlaces}
use Rattle.dex_world.specs.Items.{items_of}
use Rattle.dex_world.specs.RowsOf.{rows_on}
use Rattle.dex_world.proofs.MappedLists.{list_any-map, map-map}
use Rattle.dex_act.specs.Opened.{market_opened, market_state_of, wallet_opened}
use Rattle.dex_act.proofs.CellLists.{is_among-any}
use Rattle.dex_bank.specs.Places.{ArePlacedIn}
use Rattle.dex_replay.proofs.Ends.{is-left}
use Rattle.dex_replay.proofs.Singles.{script-acts}
use Rattle.dex_replay.proofs.Starts.{AreOfScript, are-of-script, market-addresses, opened-address, opened-opened, opened-world, wallet-addresses}
use Rattle.dex_script_types.specs.Starts.{market_state, wallet_state}
use Rattle.dex_script_types.proofs.Apart.{markets-distinct, wallets-distinct}
use Rattle.dex_script_types.proofs.Roles.{roles-all}
use Rattle.dex_batch.specs.Acting.{AreDistinct, AreDistinctCells, CanAllAct, HaveActed, IsHere, market_addresses, wallet_addresses}
use Rattle.dex_batch.specs.Rooms.{MarketRoom, WalletRoom}
use Rattle.dex_batch.proofs.RoomLaws.{listing-address, market_room, wallet_room}

module _ (script : PlainScript) (is : IsScript script) where
  abbrev first : CellsState
  first = opened script

  own : AreOfScript script first
  own = are-of-script script first (opened-opened script first refl)

  -- ---- what each row names is here

  account-here : (address : Address) → has_account address script.start.wallets ≡ true → is_among address first.wallets ≡ true
  account-here address known =
      is_among-any address first.wallets
      ∙ ap (λ (addresses : List Address). list_any (is_same address) addresses) (wallet-addresses script first own)
      ∙ list_any-map (is_same address) address_of script.start.wallets
      ∙ known

  market-here : (row : PlainRow) → IsRowOf script.start row → is_market row.market first.markets ≡ true
  market-here row fits =
      sym (list_any-map (is_same row.market) (λ (cell : MarketCellState). cell.accounts.address) first.markets)
      ∙ ap (λ (addresses : List Address). list_any (is_same row.market) addresses) (market-addresses script first own (opened-address script first refl))
      ∙ list_any-map (is_same row.market) (λ (accounts : PlainMarketAccounts). accounts.address) script.start.markets
      ∙ fits.market

  all-here : All (IsHere first) script.rows
  all-here =
      All-weaker (IsRowOf script.start) (IsHere first)
      (λ row fits. record {
        market = market-here row fits;
        wallets = roles-all (λ (address : Address). is_among address first.wallets ≡ true) script.start account-here row fits;
      }) script.rows is.rows.each

  -- ---- each journal has room for its rows

  market-rooms : (accounts : List PlainMarketAccounts)
      → AllZip (MarketRoom script.rows) (map market_state_of (map (market_opened script.rows) accounts)) (map market_room (map (market_opened script.rows) accounts))
  market-rooms [] = tt
  market-rooms (one ∷ others) = (
    subst (λ (address : Address). 0 + rows_on address script.rows ≤ rows_on one.address script.rows) (sym (listing-address one)) (omega arith),
    market-rooms others,
  )

  wallet-rooms : (accounts : List PlainAccount)
      → AllZip (WalletRoom script.rows) (map wallet_state_of (map (wallet_opened script.rows) accounts)) (map wallet_room (map (wallet_opened script.rows) accounts))
  wallet-rooms [] = tt
  wallet-rooms (one ∷ others) = (omega arith, wallet-rooms others)

  -- ---- no two have one address

  start-markets : (accounts : List PlainMarketAccounts) → market_addresses (map market_state accounts) ≡ map (λ (one : PlainMarketAccounts). one.address) accounts
  start-markets [] = refl
  start-markets (one ∷ others) = λ i. listing-address one i ∷ start-markets others i

  all-apart : AreDistinctCells first
  all-apart = record {
    markets = subst AreDistinct (sym (ap (λ (w : World). market_addresses w.markets) (opened-world script) ∙ start-markets script.start.markets)) (markets-distinct script.start is.start.accepted);
    wallets = subst AreDistinct (sym (ap (λ (w : World). wallet_addresses w.wallets) (opened-world script) ∙ map-map wallet_state (λ (state : WalletState). state.seen.address) script.start.wallets))
        (wallets-distinct script.start is.start.accepted);
  }

  pub all-can : (places : List RowPlaces) → ArePlacedIn first script.rows places → CanAllAct script.rows places first
  all-can places placed = record {
    their = opened-address script first refl;
    apart = all-apart;
    here = all-here;
    placed = placed;
    room = record { markets = market-rooms script.start.markets; wallets = wallet-rooms script.start.wallets };
  }

  -- ---- what is left

  pub all-left : (left : CellsState) → AreCells left → HasNoSwap script.rows → HaveActed script.rows script.rows first left → IsReplayOf script (closed left)
  all-left left are single so =
      is-left script left (are-of-script script left (so.kept ∙ opened-opened script first refl)) are (items_of script.rows) is.start.accepted
      (so.acted ∙ ap (fold script.rows) (opened-world script) ∙ sym (script-acts script single))

  -- cells and rows that are these can all act
  pub can-cells : (cells : CellsState) → cells ≡ first → (rows : List PlainRow) → rows ≡ script.rows → (places : List RowPlaces) → ArePlacedIn cells rows places
      → CanAllAct rows places cells
  can-cells cells made rows same places placed =
      subst (CanAllAct rows places) (sym made)
      (subst (λ (some : List PlainRow). CanAllAct some places first) (sym same)
      (all-can places (subst (λ (some : List PlainRow). ArePlacedIn first some places) same (subst (λ (c : CellsState). ArePlacedIn c rows places) made placed))))

  pub left-cells : (cells : CellsState) → cells ≡ first → (rows : List PlainRow) → rows ≡ script.rows → (left : CellsState) → AreCells left → HasNoSwap script.rows
      → HaveActed rows rows cells left → IsReplayOf script (closed left)
  left-cells cells made rows same left are single so =
      all-left left are single
      (subst (λ (c : CellsState). HaveActed script.rows script.rows c left) made (subst (λ (some : List PlainRow). HaveActed some some cells left) same so))

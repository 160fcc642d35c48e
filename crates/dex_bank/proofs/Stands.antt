-- Where the market and the wallets of rows stand among cells.
use Rattle.std.proofs.Common.{◌≡◌, ℕ, ◌<◌, List, [], ◌∷◌, Option, None, Some, get_or, length, map, sym, ap, ◌∙◌, subst, arith}
use Rattle.std.proofs.lemmas.Option.{none-some}
use Rattle.dex_world.proofs.Common.{Address, PlainAccount, PlainAccounts, PlainMarketAccounts, PlainRow, get_or-map, is_same, length-map, row_wallets}
use Rattle.dex_bank.proofs.Common.{All, AreCells, CellState, CellsState, IsFirstAt, MarketCellState, RowPlaces, made_of, market_opened, opened_of, position, wallet_opened}
use Rattle.std.proofs.lemmas.List.Quantifiers.{position-Some}
use Rattle.dex_types.specs.declared.terms.Program.{Program}
use Rattle.dex_world.specs.Places.{AreWalletsAt, IsIndexOf, place_at}
use Rattle.dex_script_types.specs.Places.{ArePlaced, IsPlaced, market_place, wallet_place}
use Rattle.dex_script_types.proofs.FoundLaws.{found-at, wallets-same}
use Rattle.dex_script_types.proofs.PlacedLaws.{position-map}
use Rattle.dex_act.specs.Wallets.{IsRoleAt, cell_place, wallet_places}
use Rattle.dex_world.proofs.MappedLists.{item_at, map-agree, map-map, zip-weaker}
use Rattle.dex_bank.specs.Opened.{opened_with}
use Rattle.dex_bank.specs.Places.{ArePlacedIn, ArePlacesIn, StandsAt}
use Rattle.dex_act.proofs.CellLists.{address_in, same-at}
use Rattle.dex_act.proofs.InHand.{stands-at}
use Rattle.dex_bank.proofs.StepWorld.{opened_market}

-- ---- a script's rows among the cells with which it starts

module _ (rows : List PlainRow) where
  first-opened : (address : Address) (markets : List PlainMarketAccounts) (place : ℕ) → market_place address markets ≡ Some place
      → IsFirstAt address (map (market_opened rows) markets) place
  first-opened address [] place is = absurd (none-some place is)
  first-opened address (first ∷ others) place is =
      let told = position-Some (λ (market : PlainMarketAccounts). is_same address market.address) (first ∷ others) place first is in
      let cell : (k : ℕ) (default : MarketCellState) → k < length (first ∷ others)
      → get_or (map (market_opened rows) (first ∷ others)) k default ≡ market_opened rows (get_or (first ∷ others) k first) =
      λ k default within. get_or-map (market_opened rows) (first ∷ others) k first default within in
      record {
        within = omega (arith, told.0, length-map (first ∷ others) (market_opened rows));
        here = λ default. ap (λ (c : MarketCellState). is_same address c.accounts.address) (cell place default told.0) ∙ told.1;
        before = λ k below default.
            ap (λ (c : MarketCellState). is_same address c.accounts.address) (cell k default (omega (arith, below, told.0))) ∙ told.2 k below;
      }

  opened-place : (wallets : List PlainAccount) (address : Address) → cell_place address (map (wallet_opened rows) wallets) ≡ wallet_place address wallets
  opened-place wallets address =
      ap (λ (addresses : List Address). position (is_same address) addresses) (map-map (wallet_opened rows) (λ (cell : CellState). cell.address) wallets)
      ∙ position-map (λ (wallet : PlainAccount). wallet.address) address wallets

  module _ (start : PlainAccounts) (program : Program) where
    placed-stands : (row : PlainRow) (places : RowPlaces) → IsPlaced start row places → ArePlacesIn (opened_with start rows program) row places
    placed-stands row places is = record {
      market = first-opened row.market start.markets places.market is.market;
      wallets =
          wallets-same (λ (address : Address). wallet_place address start.wallets) (λ (address : Address). cell_place address (map (wallet_opened rows) start.wallets))
          (λ address. sym (opened-place start.wallets address)) row.coin row.pc row.discount row.referrer places.wallets is.wallets;
    }

    pub placed-stand : (some : List PlainRow) (places : List RowPlaces) → ArePlaced start some places → ArePlacedIn (opened_with start rows program) some places
    placed-stand = zip-weaker (IsPlaced start) (ArePlacesIn (opened_with start rows program)) placed-stands

-- a row stands where the places beside it tell
pub stands-told : (cells : CellsState) (row : PlainRow) (places : RowPlaces) → ArePlacesIn cells row places
    → StandsAt cells row places.market (wallet_places places.wallets)
stands-told cells row places at = record {
  market = at.market;
  wallets = record {
    coin = stands row.coin places.wallets.coin at.wallets.of_coin;
    pc = stands row.pc places.wallets.pc at.wallets.of_pc;
    discount = stands row.discount places.wallets.discount at.wallets.of_discount;
    referrer = stands row.referrer places.wallets.referrer at.wallets.of_referrer;
  };
}
  where
    stands : (role : Option Address) (index : ℕ) → IsIndexOf (row_wallets row) role index → IsRoleAt cells.wallets role (place_at places.wallets index)
    stands None index is = tt
    stands (Some address) index is =
        stands-at address cells.wallets (place_at places.wallets index)
        (found-at (λ (a : Address). cell_place a cells.wallets) (row_wallets row) places.wallets.places index address at.wallets.places is)

-- ---- no row moves a cell

-- a market's cell has the address of its start
abbrev pub HasItsAddress : MarketCellState → Type 0
HasItsAddress cell = cell.accounts.address ≡ cell.start.address

pub its-address : (cells : CellsState) → AreCells cells → All HasItsAddress cells.markets
its-address cells kept = λ k d within. (kept.markets k d within).one_market.address

module _ (before after : CellsState) (was : All HasItsAddress before.markets) (is : All HasItsAddress after.markets)
    (kept : opened_of after ≡ opened_of before) where
  abbrev market_address : MarketCellState → Address
  market_address cell = cell.accounts.address

  opened-addresses : (cells : List MarketCellState) → All HasItsAddress cells → map market_address cells ≡ map market_address (map opened_market cells)
  opened-addresses cells its = map-agree market_address (λ (cell : MarketCellState). cell.start.address) cells its ∙ sym (map-map opened_market market_address cells)

  same-markets : map market_address after.markets ≡ map market_address before.markets
  same-markets =
      opened-addresses after.markets is
      ∙ ap (λ (cells : CellsState). map market_address cells.markets) kept
      ∙ sym (opened-addresses before.markets was)

  pub first-still : (address : Address) (place : ℕ) → IsFirstAt address before.markets place → IsFirstAt address after.markets place
  first-still address place first = record {
    within = (still place (item_at before.markets place first.within) first.within).0;
    here = λ default. ap (is_same address) (still place default first.within).1 ∙ first.here default;
    before = λ k below default. ap (is_same address) (still k default (omega (arith, below, first.within))).1 ∙ first.before k below default;
  }
    where
      still : (k : ℕ) (default : MarketCellState) → k < length before.markets
          → (k < length after.markets) × (market_address (get_or after.markets k default) ≡ market_address (get_or before.markets k default))
      still k default within = same-at market_address before.markets after.markets same-markets k default within

  same-wallets : map address_in after.wallets ≡ map address_in before.wallets
  same-wallets =
      sym (map-map made_of address_in after.wallets)
      ∙ ap (λ (cells : CellsState). map address_in cells.wallets) kept
      ∙ map-map made_of address_in before.wallets

  -- so a row stands where it stood
  pub stands-still : (row : PlainRow) (places : RowPlaces) → ArePlacesIn before row places → ArePlacesIn after row places
  stands-still row places at = record {
    market = first-still row.market places.market at.market;
    wallets =
        subst (λ (addresses : List Address).
        AreWalletsAt (λ (address : Address). position (is_same address) addresses) row.coin row.pc row.discount row.referrer places.wallets)
        (sym same-wallets) at.wallets;
  }

  -- and each of these rows
  pub stand-still : (rows : List PlainRow) (places : List RowPlaces) → ArePlacedIn before rows places → ArePlacedIn after rows places
  stand-still = zip-weaker (ArePlacesIn before) (ArePlacesIn after) stands-still

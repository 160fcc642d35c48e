-- Where the market and the wallets of a row stand among cells.
use Rattle.std.specs.Prelude.{ℕ, List}
use Rattle.std.specs.List.{AllZip}
use Rattle.dex_types.specs.declared.addresses.Address.{Address}
use Rattle.dex_types.specs.Rows.{PlainRow}
use Rattle.dex_world.specs.declared.places.RowPlaces.{RowPlaces}
use Rattle.dex_world.specs.Places.{AreWalletsAt}
use Rattle.dex_act.specs.declared.places.WalletPlaces.{WalletPlaces}
use Rattle.dex_act.specs.Wallets.{ArePlacesAmong, cell_place}
use Rattle.dex_bank.specs.Cells.{CellsState}
use Rattle.dex_bank.specs.Stepping.{IsFirstAt}

-- the market of the row stands at this place, and the wallets that it names at these
pub record StandsAt (cells : CellsState) (row : PlainRow) (place : ℕ) (places : WalletPlaces) : Type 0 where
  pub market : IsFirstAt row.market cells.markets place
  pub wallets : ArePlacesAmong cells.wallets row places

-- the market of the row and the wallets that it names stand as the places beside it tell
pub record ArePlacesIn (cells : CellsState) (row : PlainRow) (places : RowPlaces) : Type 0 where
  pub market : IsFirstAt row.market cells.markets places.market
  pub wallets :
      AreWalletsAt (λ (address : Address). cell_place address cells.wallets) row.coin row.pc row.discount row.referrer
      places.wallets

-- and those of each of these rows
abbrev pub ArePlacedIn : CellsState → List PlainRow → List RowPlaces → Type 0
ArePlacedIn cells rows places = AllZip (ArePlacesIn cells) rows places

-- Room for the entries of rows that are still to act.
use Rattle.std.specs.Prelude.{ℕ, ◌+◌, ◌≤◌, List, length, map}
use Rattle.std.specs.List.{AllZip}
use Rattle.dex_types.specs.Rows.{PlainRow}
use Rattle.dex_cell.specs.CellState.{MarketCellState}
use Rattle.dex_wallet.specs.CellState.{CellState}
use Rattle.dex_world.specs.RowsOf.{rows_naming, rows_on}
use Rattle.dex_world.specs.World.{MarketState, WalletState}
use Rattle.dex_bank.specs.Cells.{CellsState, world_of}

-- a market's journal has room for an entry of each of these rows on it
abbrev pub MarketRoom : List PlainRow → MarketState → ℕ → Type 0
MarketRoom rows state room = length state.entries + rows_on state.market.listing.address rows ≤ room

-- a wallet's has room for an entry of each of them that names it
abbrev pub WalletRoom : List PlainRow → WalletState → ℕ → Type 0
WalletRoom rows state room = length state.entries + rows_naming state.seen.address rows ≤ room

-- so has each of these cells
pub record HasRoom (rows : List PlainRow) (cells : CellsState) : Type 0 where
  pub markets : AllZip (MarketRoom rows) (world_of cells).markets (map (λ (cell : MarketCellState). cell.room) cells.markets)
  pub wallets : AllZip (WalletRoom rows) (world_of cells).wallets (map (λ (cell : CellState). cell.room) cells.wallets)

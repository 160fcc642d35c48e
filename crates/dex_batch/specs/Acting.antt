-- Rows that act on cells, one after the other.
use Rattle.std.specs.Prelude.{◌≡◌, true, false, List, ◌++◌, map}
use Rattle.std.specs.List.{All, AllPairs}
use Rattle.dex_types.specs.declared.addresses.Address.{Address}
use Rattle.dex_world.specs.declared.places.RowPlaces.{RowPlaces}
use Rattle.dex_types.specs.Addresses.{is_same}
use Rattle.dex_types.specs.Rows.{PlainRow}
use Rattle.dex_types.specs.Wallets.{row_wallets}
use Rattle.dex_cell.specs.CellState.{MarketCellState}
use Rattle.dex_world.specs.Fold.{fold}
use Rattle.dex_world.specs.World.{MarketState, WalletState}
use Rattle.dex_act.specs.Wallets.{is_among}
use Rattle.dex_bank.specs.Cells.{CellsState, is_market, opened_of, world_of}
use Rattle.dex_bank.specs.Places.{ArePlacedIn}
use Rattle.dex_batch.specs.Rooms.{HasRoom}

-- the row's market and wallets are among the cells
pub record IsHere (cells : CellsState) (row : PlainRow) : Type 0 where
  pub market : is_market row.market cells.markets ≡ true
  pub wallets : All (λ (address : Address). is_among address cells.wallets ≡ true) (row_wallets row)

-- the addresses of markets and of wallets, in their order
abbrev pub market_addresses : List MarketState → List Address
market_addresses states = map (λ (state : MarketState). state.market.listing.address) states

abbrev pub wallet_addresses : List WalletState → List Address
wallet_addresses states = map (λ (state : WalletState). state.seen.address) states

-- no two of these are the same address
abbrev pub AreDistinct : List Address → Type 0
AreDistinct addresses = AllPairs (λ (one other : Address). is_same one other ≡ false) addresses

-- no two markets have one address, and no two wallets
pub record AreDistinctCells (cells : CellsState) : Type 0 where
  pub markets : AreDistinct (market_addresses (world_of cells).markets)
  pub wallets : AreDistinct (wallet_addresses (world_of cells).wallets)

-- each market's cell has the address with which it starts
abbrev pub HaveTheirAddress : CellsState → Type 0
HaveTheirAddress cells = All (λ (cell : MarketCellState). cell.accounts.address ≡ cell.start.address) cells.markets

-- all these rows can act on the cells: what they name is here, at these places and no other, with room for their
-- entries
pub record CanAllAct (rows : List PlainRow) (places : List RowPlaces) (bank : CellsState) : Type 0 where
  pub their : HaveTheirAddress bank
  pub apart : AreDistinctCells bank
  pub here : All (IsHere bank) rows
  pub placed : ArePlacedIn bank rows places
  pub room : HasRoom rows bank

-- of all these rows a part has acted, and there is room for those behind them as before
pub record HaveActed (own all : List PlainRow) (before after : CellsState) : Type 0 where
  pub acted : world_of after ≡ fold own (world_of before)
  pub kept : opened_of after ≡ opened_of before
  pub their : HaveTheirAddress after
  pub room : (later : List PlainRow) → HasRoom (all ++ later) before → HasRoom later after

-- What a market's cell stands for, and the cells with which rows start.
use Rattle.std.specs.Prelude.{List}
use Rattle.dex_types.specs.Accounts.{PlainAccount, PlainMarketAccounts}
use Rattle.dex_types.specs.Rows.{PlainRow}
use Rattle.dex_cell.specs.CellState as market
use Rattle.dex_cell.specs.CellState.{MarketCellState, entries_of}
use Rattle.dex_world.specs.RowsOf.{rows_naming, rows_on}
use Rattle.dex_world.specs.World.{MarketState}
use Rattle.dex_wallet.specs.CellState as wallet
use Rattle.dex_wallet.specs.CellState.{CellState}

-- a cell's market, with its journal
abbrev pub market_state_of : MarketCellState → MarketState
market_state_of cell = record { market = market.market_at cell; entries = entries_of cell }

-- the cell of a market, without an entry, with room for as many as there are rows on it
abbrev pub market_opened : List PlainRow → PlainMarketAccounts → MarketCellState
market_opened rows accounts = market.new_cell accounts (rows_on accounts.address rows)

-- the cell of a wallet, without an entry, with room for as many as there are rows that name it
abbrev pub wallet_opened : List PlainRow → PlainAccount → CellState
wallet_opened rows account = wallet.new_cell account.address account.bytes (rows_naming account.address rows)

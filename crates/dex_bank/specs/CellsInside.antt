-- What the fields of cells stand for.
use Rattle.std.specs.Prelude.{List, map}
use Rattle.dex_types.specs.declared.account_bytes.Named.{Named}
use Rattle.dex_types.specs.Accounts.{named_of}
use Rattle.dex_act.specs.Steps.{Terms}
use Rattle.dex_cell.specs.CellState.{MarketCellState}
use Rattle.dex_wallet.specs.CellState.{CellState}
use Rattle.dex_bank.specs.declared.cells.Cells.TheInside.{Inside}
use Rattle.dex_bank.specs.Cells.{AreCells, CellsState}

-- the cells of these parts
abbrev pub cells_by : List Named → Terms → List MarketCellState → List CellState → CellsState
cells_by mints terms markets wallets = record {
  mints = map named_of mints;
  srm = terms.srm;
  msrm = terms.msrm;
  markets = markets;
  wallets = wallets;
  program = terms.program;
}

-- the cells that the fields are
abbrev pub cells_inside : Inside → CellsState
cells_inside inside = cells_by inside.mints.items inside.terms inside.markets.items inside.wallets.items

-- what the rows of cells see beside their wallets
abbrev pub terms_of : CellsState → Terms
terms_of cells = record { srm = cells.srm; msrm = cells.msrm; program = cells.program }

-- what always holds of cells holds of the fields
abbrev pub IsKept : Inside → Type 0
IsKept inside = AreCells (cells_inside inside)

-- What the fields of a market's cell stand for.
use Rattle.std.specs.Prelude.{◌≡◌, ◌≤◌, map, vec_capacity}
use Rattle.dex_types.specs.declared.rows.Row.{Row}
use Rattle.dex_types.specs.Accounts.{market_accounts_of}
use Rattle.dex_types.specs.Rows.{row_of}
use Rattle.dex_accounts.specs.Decoded.{market_in}
use Rattle.dex_history.specs.Journal.{Call, asked_of}
use Rattle.dex_ring.specs.PendingFills.{pending_fills_of}
use Rattle.dex_index.specs.Reached.{IsIndexOf}
use Rattle.dex_cell.specs.declared.call_record.CallRecord.{CallRecord}
use Rattle.dex_cell.specs.declared.market_cell.MarketCell.TheInside.{Inside}
use Rattle.dex_cell.specs.CellState.{IsMarketCell, MarketCellState, entries_of}

-- the call of a row and of what is recorded beside it
abbrev pub call_of : Row × CallRecord → Call
call_of told = record { asked = asked_of (row_of told.0); seen = told.1.seen; entry = told.1.entry }

-- the cell that the fields stand for
abbrev pub cell_inside : Inside → MarketCellState
cell_inside inside = record {
  start = market_accounts_of inside.start.value;
  accounts = market_accounts_of inside.accounts;
  coin = inside.vaults.coin;
  pc = inside.vaults.pc;
  calls = map call_of inside.calls.items;
  room = inside.room;
}

-- it is one; the journal is the entries of the calls, and has its room reserved; the two sums are those of pending
-- events; and the index is one of its open-orders accounts
pub record IsKept (inside : Inside) : Type 0 where
  pub cell : IsMarketCell (cell_inside inside)
  pub journal : inside.entries.items ≡ entries_of (cell_inside inside)
  pub reserved : inside.room ≤ vec_capacity inside.entries
  pub pending : inside.pending ≡ pending_fills_of (market_in (market_accounts_of inside.accounts)).events
  pub index : IsIndexOf inside.index (market_accounts_of inside.accounts).orders

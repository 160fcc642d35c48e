-- The cells with which a script starts.
use Rattle.std.specs.Prelude.{ℕ, List, map}
use Rattle.dex_types.specs.declared.terms.Program.{Program}
use Rattle.dex_types.specs.Accounts.{PlainAccount, PlainAccounts, PlainMarketAccounts}
use Rattle.dex_types.specs.Rows.{PlainRow}
pub use Rattle.dex_act.specs.Opened.{market_opened, wallet_opened}
pub use Rattle.dex_world.specs.RowsOf.{rows_naming, rows_on}
use Rattle.dex_script_types.specs.PlainScript.{PlainScript}
use Rattle.dex_bank.specs.Cells.{CellsState}

-- how many rows are on each of these markets
abbrev pub market_rooms : List PlainRow → List PlainMarketAccounts → List ℕ
market_rooms rows markets = map (λ (accounts : PlainMarketAccounts). rows_on accounts.address rows) markets

-- how many rows name each of these wallets
abbrev pub wallet_rooms : List PlainRow → List PlainAccount → List ℕ
wallet_rooms rows wallets = map (λ (account : PlainAccount). rows_naming account.address rows) wallets

-- one cell for each market and each wallet of these accounts, with room for these rows
abbrev pub opened_with : PlainAccounts → List PlainRow → Program → CellsState
opened_with start rows program = record {
  mints = start.mints;
  srm = start.srm;
  msrm = start.msrm;
  markets = map (market_opened rows) start.markets;
  wallets = map (wallet_opened rows) start.wallets;
  program = program;
}

-- the cells with which a script starts
abbrev pub opened : PlainScript → CellsState
opened script = opened_with script.start script.rows script.program

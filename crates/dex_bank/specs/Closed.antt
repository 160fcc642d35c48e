-- What cells leave where they are closed.
use Rattle.std.specs.Prelude.{map}
use Rattle.dex_types.specs.Accounts.{PlainAccount}
use Rattle.dex_cell.specs.CellState.{MarketCellState, entries_of}
use Rattle.dex_wallet.specs.CellState.{CellState}
use Rattle.dex_state.specs.Outcomes.{PlainMarketJournal, PlainOutcome, PlainWalletJournal}
use Rattle.dex_bank.specs.Cells.{CellsState}

-- the account that a wallet's cell leaves
abbrev pub account_in : CellState → PlainAccount
account_in cell = record { address = cell.address; bytes = cell.bytes }

-- the journal that a market's cell leaves
abbrev pub market_journal_in : MarketCellState → PlainMarketJournal
market_journal_in cell = record { address = cell.accounts.address; entries = entries_of cell }

-- the journal that a wallet's cell leaves
abbrev pub wallet_journal_in : CellState → PlainWalletJournal
wallet_journal_in cell = record { address = cell.address; entries = cell.entries }

-- the accounts and the journals of all cells, as they are
abbrev pub closed : CellsState → PlainOutcome
closed cells = record {
  accounts = record {
    mints = cells.mints;
    srm = cells.srm;
    msrm = cells.msrm;
    wallets = map account_in cells.wallets;
    markets = map (λ (cell : MarketCellState). cell.accounts) cells.markets;
  };
  markets = map market_journal_in cells.markets;
  wallets = map wallet_journal_in cells.wallets;
}

-- Outcomes without their buffers, so that a contract compares what they hold and not where it lies.
use Rattle.std.specs.Prelude.{List, map}
use Rattle.dex_types.specs.declared.addresses.Address.{Address}
use Rattle.dex_types.specs.declared.movements.Entry.{Entry}
use Rattle.dex_types.specs.declared.movements.WalletEntry.{WalletEntry}
use Rattle.dex_types.specs.Accounts.{PlainAccounts, accounts_of}
use Rattle.dex_state.specs.declared.outcome.MarketJournal.{MarketJournal}
use Rattle.dex_state.specs.declared.outcome.Outcome.{Outcome}
use Rattle.dex_state.specs.declared.outcome.WalletJournal.{WalletJournal}

-- a market's journal: its address and its entries
pub record PlainMarketJournal : Type 0 where
  pub address : Address
  pub entries : List Entry

-- a wallet's journal: its address and its entries
pub record PlainWalletJournal : Type 0 where
  pub address : Address
  pub entries : List WalletEntry

-- an outcome: the last accounts, and the journals
pub record PlainOutcome : Type 0 where
  pub accounts : PlainAccounts
  pub markets : List PlainMarketJournal
  pub wallets : List PlainWalletJournal

-- what a market's journal holds
abbrev pub market_journal_of : MarketJournal → PlainMarketJournal
market_journal_of journal = record { address = journal.address; entries = journal.entries.items }

-- what a wallet's journal holds
abbrev pub wallet_journal_of : WalletJournal → PlainWalletJournal
wallet_journal_of journal = record { address = journal.address; entries = journal.entries.items }

-- what an outcome holds
abbrev pub outcome_of : Outcome → PlainOutcome
outcome_of outcome = record {
  accounts = accounts_of outcome.accounts;
  markets = map market_journal_of outcome.markets.items;
  wallets = map wallet_journal_of outcome.wallets.items;
}

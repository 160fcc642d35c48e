-- Rows with other numbers: a script whose rows are counted anew, and what it leaves.
use Rattle.std.specs.Prelude.{◌≡◌, ℕ, map}
use Rattle.dex_types.specs.declared.movements.Entry.{Entry}
use Rattle.dex_types.specs.declared.movements.WalletEntry.{WalletEntry}
use Rattle.dex_types.specs.Rows.{PlainRow}
use Rattle.dex_state.specs.Outcomes.{PlainMarketJournal, PlainOutcome, PlainWalletJournal}
use Rattle.dex_script_types.specs.PlainScript.{PlainScript}

-- no two numbers become one
abbrev pub KeepsApart : (ℕ → ℕ) → Type 0
KeepsApart f = (a b : ℕ) → f a ≡ f b → a ≡ b

-- a row with its new number
abbrev pub row_with : (ℕ → ℕ) → PlainRow → PlainRow
row_with f row = record row { number = f row.number }

-- a script with new numbers
abbrev pub script_with : (ℕ → ℕ) → PlainScript → PlainScript
script_with f script = record script { rows = map (row_with f) script.rows }

-- entries with new numbers
abbrev pub entry_with : (ℕ → ℕ) → Entry → Entry
entry_with f entry = record entry { row = f entry.row }

abbrev pub wallet_entry_with : (ℕ → ℕ) → WalletEntry → WalletEntry
wallet_entry_with f entry = record entry { row = f entry.row }

-- journals, likewise
abbrev pub market_journal_with : (ℕ → ℕ) → PlainMarketJournal → PlainMarketJournal
market_journal_with f journal = record journal { entries = map (entry_with f) journal.entries }

abbrev pub wallet_journal_with : (ℕ → ℕ) → PlainWalletJournal → PlainWalletJournal
wallet_journal_with f journal = record journal { entries = map (wallet_entry_with f) journal.entries }

-- an outcome whose entries have new numbers
abbrev pub outcome_with : (ℕ → ℕ) → PlainOutcome → PlainOutcome
outcome_with f outcome = record outcome {
  markets = map (market_journal_with f) outcome.markets;
  wallets = map (wallet_journal_with f) outcome.wallets;
}

-- A report from its parts, as it is written.
use Rattle.std.proofs.Common.{◌≡◌, ◌++◌, [], ℕ, All, List, None, codes, map, refl}
use Rattle.std.specs.List.{flat_map}
use Rattle.std.proofs.lemmas.List.Elements.{All-map}
use Rattle.std.proofs.lemmas.List.Folds.{flat_map-map}
use Rattle.dex_types.specs.Accounts.{PlainAccounts}
use Rattle.dex_state.specs.Held.{HoldBytes}
use Rattle.dex_dump.specs.DumpText.{dump_text}
use Rattle.dex_state.specs.declared.outcome.MarketJournal.{MarketJournal}
use Rattle.dex_state.specs.declared.outcome.WalletJournal.{WalletJournal}
use Rattle.dex_report.specs.Lines.{line}
use Rattle.dex_state.specs.Outcomes.{market_journal_of, wallet_journal_of}
use Rattle.dex_report.specs.Report.{head_line, market_lines, report_text, wallet_lines}
use Rattle.dex_report.specs.Telling.{FitMarket, FitOutcome, IsToldWallet}

abbrev pub lines_of_market : MarketJournal → List ℕ
lines_of_market journal = market_lines (market_journal_of journal)

abbrev pub lines_of_wallet : WalletJournal → List ℕ
lines_of_wallet journal = wallet_lines (wallet_journal_of journal)

-- its values
pub whole-fits : (accounts : PlainAccounts) (markets : List MarketJournal) (wallets : List WalletJournal) → HoldBytes accounts
    → All (λ (journal : MarketJournal). FitMarket (market_journal_of journal)) markets → All (λ (journal : WalletJournal). IsToldWallet (wallet_journal_of journal)) wallets
    → FitOutcome (record { accounts = accounts; markets = map market_journal_of markets; wallets = map wallet_journal_of wallets })
whole-fits accounts markets wallets held fit told = record {
  accounts = held;
  markets = All-map FitMarket market_journal_of markets fit;
  wallets = All-map IsToldWallet wallet_journal_of wallets told;
}

-- its text
pub whole-text : (accounts : PlainAccounts) (markets : List MarketJournal) (wallets : List WalletJournal) (rows : ℕ)
    → (((([] ++ head_line (codes "report") None rows) ++ flat_map lines_of_market markets) ++ flat_map lines_of_wallet wallets) ++ dump_text accounts) ++ line (codes "end")
    ≡ report_text (record { accounts = accounts; markets = map market_journal_of markets; wallets = map wallet_journal_of wallets }) rows
whole-text accounts markets wallets rows =
    rw (flat_map-map market_lines market_journal_of markets, flat_map-map wallet_lines wallet_journal_of wallets) refl

-- Journals that are told while they grow.
use Rattle.std.specs.Prelude.{◌≡◌, ◌<◌, ◌^◌, ℕ, List, [], ◌∷◌, ◌++◌, Some, length, map}
use Rattle.std.specs.List.{All, AllZip, flat_map}
use Rattle.dex_types.specs.declared.addresses.Address.{Address}
use Rattle.dex_types.specs.Accounts.{PlainAccount, PlainAccounts, PlainMarketAccounts}
use Rattle.dex_dump.specs.Pieces.{text_in}
use Rattle.dex_state.specs.Held.{IsAddress}
use Rattle.dex_state.specs.Outcomes.{PlainMarketJournal, PlainOutcome, PlainWalletJournal}
use Rattle.dex_report.specs.Report.{entry_line, head_line, move_line}
use Rattle.dex_report.specs.Telling.{FitEntry, FitWalletEntry}
use Rattle.dex_report.specs.declared.growing.JournalText.{JournalText}
use Rattle.dex_report.specs.declared.growing.JournalTexts.{JournalTexts}

-- a text tells these entries of the journal of this address: their lines, how many they are, and that their values fit
pub record TellsJournal {A : Type 0} (Fits : A → Type 0) (line_of : A → List ℕ)
    (text : JournalText) (place : Address) (entries : List A) : Type 0
  where
    pub address : text.address ≡ place
    pub count : text.count ≡ length entries
    pub fits : All Fits entries
    pub lines : text_in text.lines ≡ flat_map line_of entries

-- a market's journal
abbrev pub TellsMarket : JournalText → PlainMarketJournal → Type 0
TellsMarket text journal = TellsJournal FitEntry entry_line text journal.address journal.entries

-- a wallet's journal
abbrev pub TellsWallet : JournalText → PlainWalletJournal → Type 0
TellsWallet text journal = TellsJournal FitWalletEntry move_line text journal.address journal.entries

-- texts tell all journals of an outcome
pub record Tells (texts : JournalTexts) (outcome : PlainOutcome) : Type 0 where
  pub markets : AllZip TellsMarket texts.markets.items outcome.markets
  pub wallets : AllZip TellsWallet texts.wallets.items outcome.wallets

-- the journal of a market without entries
abbrev pub untold_market : PlainMarketAccounts → PlainMarketJournal
untold_market market = record { address = market.address; entries = [] }

-- that of a wallet
abbrev pub untold_wallet : PlainAccount → PlainWalletJournal
untold_wallet wallet = record { address = wallet.address; entries = [] }

-- accounts, and journals without entries
abbrev pub untold : PlainAccounts → PlainOutcome
untold accounts =
    record {
      accounts = accounts;
      markets = map untold_market accounts.markets;
      wallets = map untold_wallet accounts.wallets;
    }

-- a market's journal with the entries of another behind its own
abbrev pub market_goes_on : PlainMarketJournal → PlainMarketJournal → PlainMarketJournal
market_goes_on journal next = record journal { entries = journal.entries ++ next.entries }

-- a wallet's journal, likewise
abbrev pub wallet_goes_on : PlainWalletJournal → PlainWalletJournal → PlainWalletJournal
wallet_goes_on journal next = record journal { entries = journal.entries ++ next.entries }

-- each of a list with what stands at its place in another, if something does
abbrev pub each_goes_on : {A : Type 0} → (A → A → A) → List A → List A → List A
each_goes_on on xs [] = xs
each_goes_on on [] (y ∷ ys) = []
each_goes_on on (x ∷ xs) (y ∷ ys) = on x y ∷ each_goes_on on xs ys

-- an outcome with the entries of these journals behind those of the journals at their places
abbrev pub goes_on : PlainOutcome → List PlainMarketJournal → List PlainWalletJournal → PlainOutcome
goes_on outcome markets wallets = record outcome {
  markets = each_goes_on market_goes_on outcome.markets markets;
  wallets = each_goes_on wallet_goes_on outcome.wallets wallets;
}

-- the first line of a journal, of this word, and the lines of its entries
abbrev pub journal_text : List ℕ → JournalText → List ℕ
journal_text word text = head_line word (Some text.address) text.count ++ text_in text.lines

-- its address has 32 bytes, and its entries can be counted
abbrev pub IsCounted : JournalText → Type 0
IsCounted text = IsAddress text.address × (text.count < 2 ^ 64)

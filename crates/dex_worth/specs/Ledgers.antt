-- What ledgers hold of journals, while they grow.
use Rattle.std.specs.Prelude.{ℕ, ◌≡◌, ◌<◌, ◌++◌, Some, List, [], get_or, length, map}
use Rattle.dex_types.specs.declared.addresses.Address.{Address}
use Rattle.dex_types.specs.Accounts.{PlainMarketAccounts}
use Rattle.dex_history.specs.Journal.{Call}
use Rattle.dex_state.specs.Addresses.{address_of}
use Rattle.dex_state.specs.Outcomes.{PlainMarketJournal, PlainOutcome}
use Rattle.dex_script_types.specs.PlainScript.{PlainScript}
use Rattle.dex_replay.specs.EntryCalls.{calls_told}
use Rattle.dex_worth.specs.declared.ledger.Ledger.{Ledger}
use Rattle.dex_worth.specs.Entries.{moved_told}

-- a ledger of these accounts holds what these calls tell
abbrev pub Tells : Ledger → List Address → List Call → Type 0
Tells ledger owners calls = ledger.accounts.items ≡ map (moved_told calls) owners

-- the addresses of a market's accounts, in declared order
abbrev pub owners_in : PlainMarketAccounts → List Address
owners_in market = map address_of market.orders

-- each is a ledger of the accounts of its market, of which nothing is told yet
pub record AreBlank (ledgers : List Ledger) (markets : List PlainMarketAccounts) : Type 0 where
  pub long : length ledgers ≡ length markets
  pub blank : (k : ℕ) (ledger : Ledger) (market : PlainMarketAccounts) → k < length ledgers
      → Tells (get_or ledgers k ledger) (owners_in (get_or markets k market)) []

-- a ledger that told the calls of entries before has those of this journal behind them
abbrev pub IsTaken : PlainScript → Ledger → PlainMarketJournal → Ledger → Type 0
IsTaken script before journal after =
    (owners : List Address) (calls more : List Call) → calls_told script journal.address journal.entries ≡ Some more
    → Tells before owners calls → Tells after owners (calls ++ more)

-- so each, where there is a journal for it
pub record AreTaken (script : PlainScript) (before : List Ledger) (journals : List PlainMarketJournal)
    (after : List Ledger) : Type 0 where
  pub long : length after ≡ length before
  pub taken : (k : ℕ) (ledger : Ledger) (journal : PlainMarketJournal) → k < length before → k < length journals
      → IsTaken script (get_or before k ledger) (get_or journals k journal) (get_or after k ledger)

-- the ledger of a market's accounts holds what the script's journal of the market tells
pub record IsLedgerOf (script : PlainScript) (ledger : Ledger) (market : PlainMarketAccounts)
    (journal : PlainMarketJournal) : Type 0 where
  pub calls : List Call
  pub told : calls_told script journal.address journal.entries ≡ Some calls
  pub tells : Tells ledger (owners_in market) calls

-- so does each of an outcome's
pub record AreLedgersOf (script : PlainScript) (ledgers : List Ledger) (outcome : PlainOutcome) : Type 0 where
  pub long : length ledgers ≡ length outcome.accounts.markets
  pub are : (k : ℕ) (ledger : Ledger) (market : PlainMarketAccounts) (journal : PlainMarketJournal)
      → k < length ledgers → IsLedgerOf script (get_or ledgers k ledger) (get_or outcome.accounts.markets k market)
      (get_or outcome.markets k journal)

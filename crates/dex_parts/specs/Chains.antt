-- A script in parts, one after the other: each further part starts with the accounts that the one before left, under
-- the same program.
use Rattle.std.specs.Prelude.{◌≡◌, ◌==◌, ◌++◌, false, List, [], ◌∷◌, All}
use Rattle.std.specs.List.{flat_map}
use Rattle.dex_types.specs.declared.terms.Program.{Program}
use Rattle.dex_types.specs.Accounts.{PlainAccounts}
use Rattle.dex_types.specs.Rows.{PlainRow}
use Rattle.dex_types.specs.declared.limits.Limits.{Limits}
use Rattle.dex_state.specs.Outcomes.{PlainMarketJournal, PlainOutcome, PlainWalletJournal}
use Rattle.dex_script_types.specs.PlainScript.{PlainScript}
use Rattle.dex_replay.specs.Replays.{IsReplayOf}
use Rattle.dex_parts.specs.Together.{each_behind}

-- ---- what parts leave together

-- a market's journal behind that of an earlier time
abbrev pub market_journal_behind : PlainMarketJournal → PlainMarketJournal → PlainMarketJournal
market_journal_behind before journal = record before { entries = before.entries ++ journal.entries }

-- a wallet's, likewise
abbrev pub wallet_journal_behind : PlainWalletJournal → PlainWalletJournal → PlainWalletJournal
wallet_journal_behind before journal = record before { entries = before.entries ++ journal.entries }

-- an outcome behind an earlier one: its accounts, and each journal behind the one of the same market or wallet
abbrev pub outcome_behind : PlainOutcome → PlainOutcome → PlainOutcome
outcome_behind before outcome = record {
  accounts = outcome.accounts;
  markets = each_behind market_journal_behind before.markets outcome.markets;
  wallets = each_behind wallet_journal_behind before.wallets outcome.wallets;
}

-- outcomes one behind the other
abbrev pub outcomes_behind : PlainOutcome → List PlainOutcome → PlainOutcome
outcomes_behind before [] = before
outcomes_behind before (outcome ∷ outcomes) = outcomes_behind (outcome_behind before outcome) outcomes

-- ---- two parts

-- none of these rows has the number of one of the later rows: no swap has a leg on either side
abbrev pub IsCut : List PlainRow → List PlainRow → Type 0
IsCut done later = All (λ (one : PlainRow). All (λ (other : PlainRow). (one.number == other.number) ≡ false) later) done

-- a script is two others, one behind the other: its rows are those of both, cut where no swap is parted; the first
-- starts as it does, and the second with the accounts that this outcome of the first has; and all have one program and
-- the same limits
pub record AreTwoParts (script first : PlainScript) (left : PlainOutcome) (second : PlainScript) : Type 0 where
  pub rows : script.rows ≡ first.rows ++ second.rows
  pub cut : IsCut first.rows second.rows
  pub start : first.start ≡ script.start
  pub goes_on : second.start ≡ left.accounts
  pub program : first.program ≡ script.program
  pub same_program : second.program ≡ script.program
  pub limits : first.limits ≡ script.limits
  pub same_limits : second.limits ≡ script.limits

-- ---- any number of parts

-- the rows of all parts
abbrev pub rows_of_parts : List PlainScript → List PlainRow
rows_of_parts parts = flat_map (λ (part : PlainScript). part.rows) parts

-- no swap has its legs in two parts
abbrev pub AreCut : List PlainScript → Type 0
AreCut [] = Unit {0}
AreCut (part ∷ parts) = IsCut part.rows (rows_of_parts parts) × AreCut parts

-- each part starts with the accounts that the one before left, the first with these, and all have this program and
-- these limits; and the outcome of each is a replay of it
abbrev pub AreLinked : Limits → Program → PlainAccounts → List PlainScript → List PlainOutcome → Type 0
AreLinked limits program start [] [] = Unit {0}
AreLinked limits program start (part ∷ parts) (outcome ∷ outcomes) =
    (part.start ≡ start) × (part.program ≡ program) × (part.limits ≡ limits) × IsReplayOf part outcome
    × AreLinked limits program outcome.accounts parts outcomes
AreLinked limits program start _ _ = ⊥

-- these parts with these outcomes are a chain of the script
pub record IsChainOf (script : PlainScript) (parts : List PlainScript) (outcomes : List PlainOutcome) : Type 0 where
  pub rows : script.rows ≡ rows_of_parts parts
  pub cut : AreCut parts
  pub links : AreLinked script.limits script.program script.start parts outcomes

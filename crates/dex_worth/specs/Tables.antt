-- What a journal tells of worth, beside a market that pays each fill at once.
use Rattle.std.specs.Prelude.{◌≡◌, List, Some, map}
use Rattle.dex_types.specs.declared.addresses.Address.{Address}
use Rattle.dex_types.specs.Accounts.{PlainMarketAccounts}
use Rattle.dex_types.specs.Side.{Token}
use Rattle.dex_types.specs.Soundness.{IsSound}
use Rattle.dex_types.specs.Trader.{Trader}
use Rattle.dex_accounts.specs.Decoded.{market_in}
use Rattle.dex_accounts.specs.StandsFor.{StandsFor}
use Rattle.dex_history.specs.Journal.{Call, market_after}
use Rattle.dex_state.specs.Outcomes.{PlainMarketJournal, PlainOutcome}
use Rattle.dex_script_types.specs.PlainScript.{PlainScript}
use Rattle.dex_replay.specs.EntryCalls.{TellsHistory, calls_told}
use Rattle.dex_replay.specs.Lawful.{AllThree}
use Rattle.dex_replay.specs.WorthTold.{PlainWorthRow, calls_of, rows_told}
use Rattle.dex_eager.specs.Histories.{Deal, counted, deals, eager_end, eager_fills, eager_start, fills_of, moves_of}
use Rattle.dex_eager.specs.Slots.{without_slots}
use Rattle.dex_eager.specs.Worth.{Worth, takings_of, worth_of}
use Rattle.dex_worth.specs.Flows.{AddUp}

-- what the trades of each market do goes by, as its journal tells them: the requests of its accepted rows but cranks,
-- with their tiers and program, whatever lanes, numbers and wallets the rows have
abbrev pub deals_told : PlainScript → List PlainMarketJournal → List (List Deal)
deals_told script journals = map (λ (journal : PlainMarketJournal). deals (calls_of script journal)) journals

-- the journal tells a legal history from the market's first accounts, which are those of a sound market
pub record IsTold (script : PlainScript) (first last : PlainMarketAccounts) (journal : PlainMarketJournal) : Type 0 where
  pub tells : TellsHistory script first last journal
  pub sound : IsSound (market_in first)
  pub address : first.address ≡ journal.address

-- an account and its worth
abbrev pub worth_in_row : PlainWorthRow → Address × Worth
worth_in_row row = (row.account, row.worth)

-- what a market left is what one leaves that pays each fill at once: the worth of each account, which is also the sum
-- of what is free, resting and owed at the end, less deposits, plus settlements, over the steps of the calls that the
-- journal tells; both sides but for slots; the fills of resting orders; and what the market took, with what was swept
-- and paid to referrers. And of each token nothing was made or lost
pub record PaysAtOnce (script : PlainScript) (first last : PlainMarketAccounts) (journal : PlainMarketJournal) : Type 0 where
  pub calls : List Call
  pub told : calls_told script journal.address journal.entries ≡ Some calls
  pub stands : StandsFor last (market_after (market_in first) calls)
  pub worths : map worth_in_row (rows_told script last journal) ≡ (eager_end (market_in first) calls).worths
  pub ledger : map worth_in_row (rows_told script last journal)
      ≡ map (λ (entry : Address × Trader). (entry.0, worth_of entry.0 (market_after (market_in first) calls) (moves_of (market_in first) calls)))
      (market_after (market_in first) calls).traders
  pub bids : without_slots (market_after (market_in first) calls).bids ≡ (eager_end (market_in first) calls).bids
  pub asks : without_slots (market_after (market_in first) calls).asks ≡ (eager_end (market_in first) calls).asks
  pub fills : fills_of (market_in first) calls ≡ eager_fills (eager_start (market_in first)) (counted calls)
  pub takings : takings_of (market_after (market_in first) calls) (moves_of (market_in first) calls) ≡ (eager_end (market_in first) calls).takings
  pub kept : (token : Token) → AddUp token (market_in first) calls

-- so did each market of an outcome
abbrev pub ArePaidAtOnce : PlainScript → PlainOutcome → Type 0
ArePaidAtOnce script outcome =
    AllThree (PaysAtOnce script) script.start.markets outcome.accounts.markets outcome.markets

-- The worth of accounts, as last accounts and the calls of a journal tell it.
use Rattle.std.specs.Prelude.{ℤ, pos, ◌+ℤ◌, ◌-ℤ◌, List, [], ◌∷◌, ◌++◌, map}
use Rattle.std.specs.Option.{unwrap_or}
use Rattle.dex_types.specs.declared.addresses.Address.{Address}
use Rattle.dex_types.specs.Accounts.{PlainMarketAccounts}
use Rattle.dex_types.specs.Side.{Token, Coin, Pc}
use Rattle.dex_types.specs.Totals.{total}
use Rattle.dex_types.specs.Trader.{Trader}
use Rattle.dex_accounts.specs.Decoded.{market_in}
use Rattle.dex_history.specs.Journal.{Call}
use Rattle.dex_eager.specs.Eager.{Worths}
use Rattle.dex_eager.specs.Worth.{Worth, held_for}
use Rattle.dex_state.specs.Outcomes.{PlainMarketJournal, PlainOutcome}
use Rattle.dex_script_types.specs.PlainScript.{PlainScript}
use Rattle.dex_replay.specs.EntryCalls.{calls_told}
use Rattle.dex_replay.specs.Told.{told_in, told_out}

-- an account's worth in a token: what last accounts hold for it, less what calls tell of its deposits, plus what they
-- tell was settled
abbrev pub told_of : Token → Address → PlainMarketAccounts → List Call → ℤ
told_of token owner last calls = (pos (held_for token owner (market_in last)) -ℤ pos (total (told_in token owner) calls)) +ℤ pos (total (told_out token owner) calls)

-- in both
abbrev pub worth_told : Address → PlainMarketAccounts → List Call → Worth
worth_told owner last calls = record { coin = told_of Coin owner last calls; pc = told_of Pc owner last calls }

-- of each account of the market, in declared order
abbrev pub worths_told : PlainMarketAccounts → List Call → Worths
worths_told last calls = map (λ (entry : Address × Trader). (entry.0, worth_told entry.0 last calls)) (market_in last).traders

-- ---- of outcomes

-- the worth of an account of a market
pub record PlainWorthRow : Type 0 where
  pub market : Address
  pub account : Address
  pub worth : Worth

-- the calls that a market's journal tells
abbrev pub calls_of : PlainScript → PlainMarketJournal → List Call
calls_of script journal = unwrap_or (calls_told script journal.address journal.entries) []

-- the row of an account
abbrev pub row_told : PlainScript → PlainMarketAccounts → PlainMarketJournal → Address × Trader → PlainWorthRow
row_told script last journal entry =
    record { market = journal.address; account = entry.0; worth = worth_told entry.0 last (calls_of script journal) }

-- the rows of a market, as its last accounts and its journal tell them: its accounts in declared order
abbrev pub rows_told : PlainScript → PlainMarketAccounts → PlainMarketJournal → List PlainWorthRow
rows_told script last journal = map (row_told script last journal) (market_in last).traders

-- the rows of all markets
abbrev pub tables_told : PlainScript → List PlainMarketAccounts → List PlainMarketJournal → List PlainWorthRow
tables_told script (last ∷ lasts) (journal ∷ journals) = rows_told script last journal ++ tables_told script lasts journals
tables_told script _ _ = []

-- the table of an outcome: its markets in declared order
abbrev pub table_told : PlainScript → PlainOutcome → List PlainWorthRow
table_told script outcome = tables_told script outcome.accounts.markets outcome.markets

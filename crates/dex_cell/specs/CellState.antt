-- What a market's cell keeps.
use Rattle.std.specs.Prelude.{ℕ, ◌≡◌, ◌<◌, ◌≤◌, true, List, [], ◌∷◌, ◌++◌, None, length, map, Result}
use Rattle.dex_types.specs.declared.movements.Entry.{Entry}
use Rattle.dex_types.specs.declared.refusals.Refusal.{Refusal}
use Rattle.dex_types.specs.declared.replies.Reply.{Reply}
use Rattle.dex_types.specs.declared.replies.Reply.TheVariants.{Done}
use Rattle.dex_types.specs.declared.rows.Row.{Row}
use Rattle.dex_types.specs.declared.rows.Seen.{Seen}
use Rattle.dex_types.specs.Accounts.{PlainMarketAccounts}
use Rattle.dex_types.specs.Market.{Market}
use Rattle.dex_types.specs.Rows.{PlainRow, row_of}
use Rattle.dex_types.specs.Soundness.{IsSound}
use Rattle.dex_types.specs.Steps.{Step}
use Rattle.dex_types.specs.Transfers.{no_transfers}
use Rattle.dex_types.specs.Why.{why}
use Rattle.dex_accounts.specs.Accepted.{IsAccepted}
use Rattle.dex_accounts.specs.Decoded.{AreSound, market_in}
use Rattle.dex_plan.specs.declared.plan.Plan.{Plan}
use Rattle.dex_plan.specs.Plans.{decided}
use Rattle.dex_history.specs.Journal.{Call, IsLegal, Sees, asked_of, is_refusal, is_take, market_after, request_of, row_step}
use Rattle.dex_movements.specs.Entries.{entry_by}
use Rattle.dex_step.specs.Acting.{addresses_of}
use Rattle.dex_wallet.specs.TokenAmount.{TokenAmount, held_in}

-- a market's cell: its accounts as they were when the cell was made and as they are now, the parcels that its vaults
-- are, the calls since, and for how many altogether there is room
pub record MarketCellState : Type 0 where
  pub start : PlainMarketAccounts
  pub accounts : PlainMarketAccounts
  pub coin : TokenAmount
  pub pc : TokenAmount
  pub calls : List Call
  pub room : ℕ

-- the accounts are those of one market with one authority, in one order
pub record AreOfOneMarket (start accounts : PlainMarketAccounts) : Type 0 where
  pub address : accounts.address ≡ start.address
  pub authority : accounts.authority ≡ start.authority
  pub orders : addresses_of accounts.orders ≡ addresses_of start.orders

-- what always holds of a cell: its accounts are accepted and those of a sound market, which is the one at the end of
-- the calls; these are a legal history from the market at the start; and the parcels are what the vaults hold
pub record IsMarketCell (cell : MarketCellState) : Type 0 where
  pub sound : AreSound cell.accounts
  pub accepted : IsAccepted cell.accounts
  pub one_market : AreOfOneMarket cell.start cell.accounts
  pub start : IsSound (market_in cell.start)
  pub legal : IsLegal (market_in cell.start) cell.calls
  pub end_is : market_in cell.accounts ≡ market_after (market_in cell.start) cell.calls
  pub coin : cell.coin ≡ held_in cell.accounts.coin_vault
  pub pc : cell.pc ≡ held_in cell.accounts.pc_vault
  pub room : length cell.calls ≤ cell.room

-- a cell without a call yet
abbrev pub new_cell : PlainMarketAccounts → ℕ → MarketCellState
new_cell accounts room = record {
  start = accounts;
  accounts = accounts;
  coin = held_in accounts.coin_vault;
  pc = held_in accounts.pc_vault;
  calls = [];
  room = room;
}

-- the entries of the calls: the market's journal
abbrev pub entries_of : MarketCellState → List Entry
entries_of cell = map (λ (call : Call). call.entry) cell.calls

-- there is room for a call more
abbrev pub HasSpare : MarketCellState → Type 0
HasSpare cell = length cell.calls < cell.room

-- the call that a row makes on a market: it is answered by its step there
abbrev pub call_made : PlainRow → Seen → Market → Call
call_made row seen m =
    let s = row_step row seen m in
    record { asked = asked_of row; seen = seen; entry = entry_by row seen s.reply s.transfers }

-- the call of a take that is held back: nothing moves
abbrev pub held_made : PlainRow → Seen → Call
held_made row seen = record { asked = asked_of row; seen = seen; entry = entry_by row seen Done no_transfers }

-- ---- a row at the end of the calls

-- the market there
abbrev pub market_at : MarketCellState → Market
market_at cell = market_in cell.accounts

-- what deciding a row on the cell's market answers
abbrev pub answer_on : Row → Seen → MarketCellState → Result Plan Refusal
answer_on row seen cell = decided (request_of (row_of row)) seen (market_at cell)

-- the step of a row on the cell's market
abbrev pub step_on : Row → Seen → MarketCellState → Step
step_on row seen cell = row_step (row_of row) seen (market_at cell)

-- the call that a row makes on the cell's market, with its entry
abbrev pub call_on : Row → Seen → MarketCellState → Call
call_on row seen cell = call_made (row_of row) seen (market_at cell)

-- the cell after a row was written down with this reply that moves nothing
abbrev pub noted_on : Row → Seen → Reply → MarketCellState → MarketCellState
noted_on row seen reply cell = record cell {
  calls = cell.calls ++ record {
    asked = asked_of (row_of row);
    seen = seen;
    entry = entry_by (row_of row) seen reply no_transfers;
  } ∷ [];
}

-- it is one of this market, and it sees exactly the wallets that it names
pub record IsFor (row : Row) (seen : Seen) (cell : MarketCellState) : Type 0 where
  pub market : row.market ≡ cell.accounts.address
  pub sees : Sees (asked_of (row_of row)) seen

-- its call stands after the others, and the accounts are those of the market after its step
pub record HasActed (row : Row) (seen : Seen) (before after : MarketCellState) : Type 0 where
  pub calls : after.calls ≡ before.calls ++ call_on row seen before ∷ []
  pub market : market_at after ≡ (step_on row seen before).market
  pub start : after.start ≡ before.start
  pub room : after.room ≡ before.room

-- it was refused: its call stands after the others, and all else is as it was
abbrev pub refused_on : Row → Seen → MarketCellState → MarketCellState
refused_on row seen cell = record cell { calls = cell.calls ++ call_on row seen cell ∷ [] }

-- it is a take, and would not be refused
pub record CanHold (row : Row) (seen : Seen) (cell : MarketCellState) : Type 0 where
  pub take : is_take (asked_of (row_of row)).request.instruction ≡ true
  pub spared : why (request_of (row_of row)) seen (market_at cell) ≡ None

-- it was held back: its call stands after the others, and all else is as it was
abbrev pub held_on : Row → Seen → MarketCellState → MarketCellState
held_on row seen cell = record cell { calls = cell.calls ++ held_made (row_of row) seen ∷ [] }

-- a row was done or refused: its call stands after the others, where it is refused all else is as it was, and this is a
-- cell again
pub record HasTaken (row : Row) (seen : Seen) (before after : MarketCellState) : Type 0 where
  pub acted : HasActed row seen before after
  pub refused : is_refusal (step_on row seen before).reply ≡ true → after ≡ refused_on row seen before
  pub cell : IsMarketCell after

-- a take was held back, and this is a cell again
pub record HasHeld (row : Row) (seen : Seen) (before after : MarketCellState) : Type 0 where
  pub held : after ≡ held_on row seen before
  pub cell : IsMarketCell after

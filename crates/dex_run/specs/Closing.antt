-- What a bank leaves when all seats are back.
use Rattle.std.specs.Prelude.{ℕ, ◌≡◌, ◌≤◌, List, All, Some, Vec, map}
use Rattle.std.specs.List.{AllZip}
use Rattle.dex_types.specs.declared.movements.WalletEntry.{WalletEntry}
use Rattle.dex_types.specs.Accounts.{PlainAccount, PlainMarketAccounts}
use Rattle.dex_cell.specs.CellState.{MarketCellState}
use Rattle.dex_gate.specs.GateView.{GateView}
use Rattle.dex_gate.specs.PassView.{PassView}
use Rattle.dex_history.specs.Journal.{Call}
use Rattle.dex_state.specs.Outcomes.{PlainOutcome}
use Rattle.dex_script_types.specs.PlainScript.{PlainScript}
use Rattle.dex_world.specs.Lists.{AllThree}
use Rattle.dex_wallet.specs.CellState.{CellState}
use Rattle.dex_stamps.specs.Stamped.{Stamped}
use Rattle.dex_journals.specs.Journals.{BankMarketState, IsBankMarket, MarketOrigin, market_calls, market_origin}
use Rattle.dex_journals.specs.Journals.{BankWalletState, IsBankWallet, WalletOrigin, wallet_entries, wallet_origin}
use Rattle.dex_journals.specs.StampedCalls.{calls_on, entries_on}
use Rattle.dex_serializable.specs.Merged.{AreMerged, Histories, left}
use Rattle.dex_run.specs.declared.closing.ClosingRoom.{ClosingRoom}
use Rattle.dex_run.specs.declared.closing.GateRoom.{GateRoom}
use Rattle.dex_turns.specs.Bank.{BankState}
use Rattle.dex_run.specs.Columns.{AreEmpty, IsClosed, IsRoom}
use Rattle.dex_turns.specs.Seats.{IsPass, SeatState, lane_in}

-- journals that hold for the lane of each of these seats just what it made, in its order, leave this
pub record ClosesAs (script : PlainScript) (seats : List SeatState) (outcome : PlainOutcome) : Type 0 where
  pub all : Histories
  pub lanes : all.lanes ≡ map lane_in seats
  pub merged : AreMerged script all
  pub leaves : outcome ≡ left script all

-- ---- room

-- room for this many gates with this many passes each
pub record HasGateRoom {P C : Type 0} (gates lanes : ℕ) (room : GateRoom P C) : Type 0 where
  pub columns : AreEmpty gates lanes room.columns.items
  pub cells : IsRoom gates room.cells

-- room for this many markets and wallets with this many lanes
pub record HasRoom (markets wallets lanes : ℕ) (room : ClosingRoom) : Type 0 where
  pub of_markets : HasGateRoom markets lanes room.markets
  pub of_wallets : HasGateRoom wallets lanes room.wallets
  pub market_cells : markets ≤ room.left.markets
  pub wallet_cells : wallets ≤ room.left.wallets

-- ---- the passes of all seats, gate by gate

-- the pass of a seat for a gate, which made these
pub record IsPassAt {E O : Type 0} (mine : List E) (gate : GateView E O) (seat : SeatState) (pass : PassView E O) : Type 0 where
  pub of_gate : pass.gate ≡ Some gate
  pub made : IsPass seat.lane mine pass

-- the pass of a seat for the gate of a market
abbrev pub IsMarketPassAt : PlainMarketAccounts → GateView (Stamped Call) MarketOrigin → SeatState
    → PassView (Stamped Call) MarketOrigin → Type 0
IsMarketPassAt start gate seat pass = IsPassAt (calls_on start.address seat.calls) gate seat pass

-- the pass of a seat for the gate of a wallet
abbrev pub IsWalletPassAt : PlainAccount → GateView (Stamped WalletEntry) WalletOrigin → SeatState
    → PassView (Stamped WalletEntry) WalletOrigin → Type 0
IsWalletPassAt start gate seat pass = IsPassAt (entries_on start.address seat.calls) gate seat pass

-- for each market a column with the passes of these seats, in their order
abbrev pub MarketColumns : {Z : Type 0} → BankState → List SeatState
    → List (Vec (PassView (Stamped Call) MarketOrigin) Z) → Type 0
MarketColumns bank seats columns =
    AllThree (λ start gate column. AllZip (IsMarketPassAt start gate) seats column.items)
    bank.script.start.markets bank.markets columns

-- and for each wallet
abbrev pub WalletColumns : {Z : Type 0} → BankState → List SeatState
    → List (Vec (PassView (Stamped WalletEntry) WalletOrigin) Z) → Type 0
WalletColumns bank seats columns =
    AllThree (λ start gate column. AllZip (IsWalletPassAt start gate) seats column.items)
    bank.script.start.wallets bank.wallets columns

-- ---- what the gates give

-- the market that a gate gives for all its passes
abbrev pub IsMarketClosed : GateView (Stamped Call) MarketOrigin → List (PassView (Stamped Call) MarketOrigin)
    → BankMarketState → Type 0
IsMarketClosed = IsClosed market_calls (λ (call : Stamped Call). call.item.asked.lane) market_origin

-- the wallet
abbrev pub IsWalletClosed : GateView (Stamped WalletEntry) WalletOrigin
    → List (PassView (Stamped WalletEntry) WalletOrigin) → BankWalletState → Type 0
IsWalletClosed = IsClosed wallet_entries (λ (entry : Stamped WalletEntry). entry.item.lane) wallet_origin

-- the cells of the values that gates give for the passes of their columns
pub record AreClosed {V E O C Z : Type 0} (Given : GateView E O → List (PassView E O) → V → Type 0) (Kept : V → Type 0)
    (cell : V → C) (gates : List (GateView E O)) (columns : List (Vec (PassView E O) Z)) (cells : List C) : Type 0 where
  pub values : List V
  pub given : AllThree (λ gate column value. Given gate column.items value) gates columns values
  pub kept : All Kept values
  pub are : cells ≡ map cell values

-- of markets
abbrev pub AreMarketsClosed : {Z : Type 0} → List (GateView (Stamped Call) MarketOrigin)
    → List (Vec (PassView (Stamped Call) MarketOrigin) Z) → List MarketCellState → Type 0
AreMarketsClosed = AreClosed IsMarketClosed IsBankMarket (λ (value : BankMarketState). value.cell)

-- and of wallets
abbrev pub AreWalletsClosed : {Z : Type 0} → List (GateView (Stamped WalletEntry) WalletOrigin)
    → List (Vec (PassView (Stamped WalletEntry) WalletOrigin) Z) → List CellState → Type 0
AreWalletsClosed = AreClosed IsWalletClosed IsBankWallet (λ (value : BankWalletState). value.cell)

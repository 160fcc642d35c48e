-- The seat of a lane: its passes, and what it made.
use Rattle.std.specs.Prelude.{ℕ, ◌≡◌, ◌≤◌, List, [], Some, All, length}
use Rattle.std.specs.List.{AllZip}
use Rattle.dex_types.specs.declared.movements.WalletEntry.{WalletEntry}
use Rattle.dex_types.specs.Accounts.{PlainAccount, PlainMarketAccounts}
use Rattle.dex_gate.specs.PassView.{PassView}
use Rattle.dex_gate.specs.declared.stage.Stage.TheVariants.{Idle}
use Rattle.dex_history.specs.Journal.{Call}
use Rattle.dex_script_types.specs.PlainScript.{PlainScript}
use Rattle.dex_stamps.specs.Stamped.{Stamped}
use Rattle.dex_journals.specs.Journals.{MarketOrigin, WalletOrigin}
use Rattle.dex_journals.specs.StampedCalls.{calls_on, entries_on}
use Rattle.dex_world.specs.Items.{rows_of_lane}
use Rattle.dex_journals.specs.Lanes.{IsLane, Lane}
use Rattle.dex_turns.specs.Bank.{BankState, MarketGate, WalletGate}

-- a lane's pass for a market, and for a wallet, as they are seen
abbrev pub MarketPass : Type 0
MarketPass = PassView (Stamped Call) MarketOrigin

abbrev pub WalletPass : Type 0
WalletPass = PassView (Stamped WalletEntry) WalletOrigin

-- a lane of a script, the calls that it made so far and the last stamp of them (0 where there is none), and its pass
-- for each market and each wallet, in declared order
pub record SeatState : Type 0 where
  pub lane : ℕ
  pub script : PlainScript
  pub calls : List (Stamped Call)
  pub last : ℕ
  pub markets : List MarketPass
  pub wallets : List WalletPass

-- the seat of a lane with these passes, when no row has acted
abbrev pub fresh_seat : ℕ → PlainScript → List MarketPass → List WalletPass → SeatState
fresh_seat lane script markets wallets =
    record { lane = lane; script = script; calls = []; last = 0; markets = markets; wallets = wallets }

-- a pass of the lane that made these: it holds no ticket and has no number to hand out
pub record IsPass {E O : Type 0} (lane : ℕ) (made : List E) (pass : PassView E O) : Type 0 where
  pub number : pass.number ≡ lane
  pub none_left : pass.until ≤ pass.next
  pub idle : pass.stage ≡ Idle
  pub mine : pass.mine ≡ made

-- a pass of the lane for a market: what it made are the lane's calls on the market
abbrev pub IsMarketPass : ℕ → List (Stamped Call) → PlainMarketAccounts → MarketPass → Type 0
IsMarketPass lane calls start pass = IsPass lane (calls_on start.address calls) pass

-- a pass of the lane for a wallet: what it made are the entries of the lane's calls in the wallet's journal
abbrev pub IsWalletPass : ℕ → List (Stamped Call) → PlainAccount → WalletPass → Type 0
IsWalletPass lane calls start pass = IsPass lane (entries_on start.address calls) pass

-- what always holds of a seat: its calls are its lane's first rows, each done once, and its passes made just these
pub record IsSeat (seat : SeatState) : Type 0 where
  pub calls : IsLane seat.script seat.lane seat.calls
  pub below : All (λ (call : Stamped Call). call.stamp ≤ seat.last) seat.calls
  pub markets : AllZip (IsMarketPass seat.lane seat.calls) seat.script.start.markets seat.markets
  pub wallets : AllZip (IsWalletPass seat.lane seat.calls) seat.script.start.wallets seat.wallets

-- the seat is one of this bank
pub record IsSeatOf (bank : BankState) (seat : SeatState) : Type 0 where
  pub script : seat.script ≡ bank.script
  pub markets : AllZip (λ (gate : MarketGate) (pass : MarketPass). pass.gate ≡ Some gate) bank.markets seat.markets
  pub wallets : AllZip (λ (gate : WalletGate) (pass : WalletPass). pass.gate ≡ Some gate) bank.wallets seat.wallets

-- all rows of its lane are done
abbrev pub IsDone : SeatState → Type 0
IsDone seat = length seat.calls ≡ length (rows_of_lane seat.lane seat.script.rows)

-- its lane with what it made
abbrev pub lane_in : SeatState → Lane
lane_in seat = record { number = seat.lane; calls = seat.calls }

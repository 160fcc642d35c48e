-- The gates of an exchange's markets and wallets.
use Rattle.std.specs.Prelude.{ℕ, ◌≡◌, List, []}
use Rattle.std.specs.List.{AllZip}
use Rattle.dex_types.specs.declared.movements.WalletEntry.{WalletEntry}
use Rattle.dex_types.specs.Accounts.{PlainAccount, PlainMarketAccounts}
use Rattle.dex_gate.specs.GateView.{GateView}
use Rattle.dex_history.specs.Journal.{Call}
use Rattle.dex_script_types.specs.PlainScript.{PlainScript}
use Rattle.dex_script_types.specs.Facts.{IsScript}
use Rattle.dex_stamps.specs.Stamped.{Stamped}
use Rattle.dex_journals.specs.Journals.{MarketOrigin, WalletOrigin}

-- a market's gate, and a wallet's, as they are seen
abbrev pub MarketGate : Type 0
MarketGate = GateView (Stamped Call) MarketOrigin

abbrev pub WalletGate : Type 0
WalletGate = GateView (Stamped WalletEntry) WalletOrigin

-- a gate for each market and each wallet of a script's start, in declared order
pub record BankState : Type 0 where
  pub script : PlainScript
  pub markets : List MarketGate
  pub wallets : List WalletGate

-- a gate that was opened so, with nothing made yet, and has a pass for each of this many lanes
pub record IsGate {E O : Type 0} (lanes : ℕ) (from : O) (gate : GateView E O) : Type 0 where
  pub origin : gate.origin ≡ from
  pub opening : gate.opening ≡ []
  pub passes : gate.passes ≡ lanes

-- the gate of a market of the start: it was opened with these accounts and no call, and has a pass for each lane
abbrev pub IsMarketGate : PlainScript → PlainMarketAccounts → MarketGate → Type 0
IsMarketGate script start gate = IsGate {O = MarketOrigin} script.lanes (record { start = start; script = script }) gate

-- the gate of a wallet of the start
abbrev pub IsWalletGate : PlainScript → PlainAccount → WalletGate → Type 0
IsWalletGate script start gate = IsGate {O = WalletOrigin} script.lanes (record { start = start; script = script }) gate

-- what always holds of a bank
pub record IsBank (bank : BankState) : Type 0 where
  pub script : IsScript bank.script
  pub markets : AllZip (IsMarketGate bank.script) bank.script.start.markets bank.markets
  pub wallets : AllZip (IsWalletGate bank.script) bank.script.start.wallets bank.wallets

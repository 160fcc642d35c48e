-- The journals of markets and wallets beside what the lanes made.
use Rattle.std.specs.Prelude.{◌≡◌, ◌<◌, List, All, length, map}
use Rattle.std.specs.List.{AllZip, range_with_len}
use Rattle.dex_types.specs.declared.movements.WalletEntry.{WalletEntry}
use Rattle.dex_types.specs.Accounts.{PlainAccount, PlainMarketAccounts}
use Rattle.dex_history.specs.Journal.{Call}
use Rattle.dex_bank.specs.Closed.{closed}
use Rattle.dex_state.specs.Outcomes.{PlainOutcome}
use Rattle.dex_script_types.specs.PlainScript.{PlainScript}
use Rattle.dex_script_types.specs.Facts.{IsScript}
use Rattle.dex_stamps.specs.Stamped.{Stamped}
use Rattle.dex_journals.specs.Journals.{BankMarketState, BankWalletState, IsBankMarket, IsBankWallet}
use Rattle.dex_journals.specs.Journals.{market_calls, market_origin, wallet_entries, wallet_origin}
use Rattle.dex_journals.specs.StampedCalls.{calls_of_lane, calls_on, entries_of_lane, entries_on}
use Rattle.dex_journals.specs.Lanes.{IsLaneDone, Lane}

-- a market that the script starts with, when all lanes are done: for each lane its journal has just the lane's calls on
-- the market, in their order, and it has no others
pub record IsMarketMerged (script : PlainScript) (lanes : List Lane) (start : PlainMarketAccounts)
    (market : BankMarketState) : Type 0 where
  pub kept : IsBankMarket market
  pub origin : market_origin market ≡ record { start = start; script = script }
  pub of_lanes : All (λ (call : Stamped Call). call.item.asked.lane < length lanes) (market_calls market)
  pub each : All (λ (lane : Lane). calls_of_lane lane.number (market_calls market) ≡ calls_on start.address lane.calls) lanes

-- a wallet that the script starts with, when all lanes are done
pub record IsWalletMerged (script : PlainScript) (lanes : List Lane) (start : PlainAccount)
    (wallet : BankWalletState) : Type 0 where
  pub kept : IsBankWallet wallet
  pub origin : wallet_origin wallet ≡ record { start = start; script = script }
  pub of_lanes : All (λ (entry : Stamped WalletEntry). entry.item.lane < length lanes) (wallet_entries wallet)
  pub each : All (λ (lane : Lane).
      entries_of_lane lane.number (wallet_entries wallet) ≡ entries_on start.address lane.calls) lanes

-- all markets and wallets of an exchange, and all lanes
pub record Histories : Type 0 where
  pub markets : List BankMarketState
  pub wallets : List BankWalletState
  pub lanes : List Lane

-- they are those of a script, when all lanes are done
pub record AreMerged (script : PlainScript) (all : Histories) : Type 0 where
  pub facts : IsScript script
  pub numbers : map (λ (lane : Lane). lane.number) all.lanes ≡ range_with_len 0 script.lanes
  pub lanes : All (IsLaneDone script) all.lanes
  pub markets : AllZip (IsMarketMerged script all.lanes) script.start.markets all.markets
  pub wallets : AllZip (IsWalletMerged script all.lanes) script.start.wallets all.wallets

-- what they leave
abbrev pub left : PlainScript → Histories → PlainOutcome
left script all = closed (record {
  mints = script.start.mints;
  srm = script.start.srm;
  msrm = script.start.msrm;
  markets = map (λ (market : BankMarketState). market.cell) all.markets;
  wallets = map (λ (wallet : BankWalletState). wallet.cell) all.wallets;
  program = script.program;
})

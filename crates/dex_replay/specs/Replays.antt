-- What is left when all rows of a script have acted, one after the other.
use Rattle.std.specs.Prelude.{◌≡◌, List, [], ◌∷◌, map}
use Rattle.std.specs.List.{AllZip}
use Rattle.dex_types.specs.Accounts.{PlainAccount, PlainMarketAccounts}
use Rattle.dex_types.specs.Rows.{PlainRow}
use Rattle.dex_accounts.specs.StandsFor.{StandsFor}
use Rattle.dex_cell.specs.CellState.{AreOfOneMarket}
use Rattle.dex_state.specs.Addresses.{address_of}
use Rattle.dex_state.specs.Accepted.{AreAccepted}
use Rattle.dex_world.specs.Fold.{fold}
use Rattle.dex_world.specs.Items.{Item, fold_items, items_of}
use Rattle.dex_world.specs.World.{MarketState, WalletState, World}
use Rattle.dex_state.specs.Outcomes.{PlainMarketJournal, PlainOutcome, PlainWalletJournal}
use Rattle.dex_script_types.specs.PlainScript.{PlainScript}
pub use Rattle.dex_script_types.specs.Starts.{market_state, start_world, wallet_state}
use Rattle.dex_wallet.specs.CellState.{balance_of}
use Rattle.dex_token.specs.TokenAccount.{with_amount}

-- the world when items have acted in this order
abbrev pub world_after : PlainScript → List Item → World
world_after script items = fold_items items (start_world script)

-- token accounts with the amounts of these wallets
abbrev pub with_amounts : List PlainAccount → List WalletState → List PlainAccount
with_amounts (account ∷ accounts) (state ∷ states) =
    record account { bytes = with_amount account.bytes state.seen.balance } ∷ with_amounts accounts states
with_amounts _ _ = []

-- the outcome is of the script's start: its mints as they were, and its wallets, markets and open-orders accounts, by
-- address and in their order, with one journal for each market and each wallet
pub record IsOfStart (script : PlainScript) (outcome : PlainOutcome) : Type 0 where
  pub mints : outcome.accounts.mints ≡ script.start.mints
  pub srm : outcome.accounts.srm ≡ script.start.srm
  pub msrm : outcome.accounts.msrm ≡ script.start.msrm
  pub wallets : map address_of outcome.accounts.wallets ≡ map address_of script.start.wallets
  pub markets : AllZip AreOfOneMarket script.start.markets outcome.accounts.markets
  pub market_journals : map (λ (journal : PlainMarketJournal). journal.address) outcome.markets
      ≡ map (λ (accounts : PlainMarketAccounts). accounts.address) script.start.markets
  pub wallet_journals : map (λ (journal : PlainWalletJournal). journal.address) outcome.wallets
      ≡ map address_of script.start.wallets

-- the outcome is what is left of this world: the journals are its, the accounts of markets stand for its markets, and
-- the wallets are as they were but for the amount, which reads as the balance there
pub record IsLeftIn (script : PlainScript) (world : World) (outcome : PlainOutcome) : Type 0 where
  pub start : IsOfStart script outcome
  pub accepted : AreAccepted script.limits outcome.accounts
  pub markets : map (λ (journal : PlainMarketJournal). journal.entries) outcome.markets ≡ map (λ (state : MarketState). state.entries) world.markets
  pub wallets : map (λ (journal : PlainWalletJournal). journal.entries) outcome.wallets ≡ map (λ (state : WalletState). state.entries) world.wallets
  pub stand : AllZip (λ (accounts : PlainMarketAccounts) (state : MarketState). StandsFor accounts state.market)
      outcome.accounts.markets world.markets
  pub amounts : outcome.accounts.wallets ≡ with_amounts script.start.wallets world.wallets
  pub balances : map (λ (account : PlainAccount). balance_of account.bytes) outcome.accounts.wallets
      ≡ map (λ (state : WalletState). state.seen.balance) world.wallets

-- the outcome is what is left when these items have acted
abbrev pub IsLeftBy : PlainScript → List Item → PlainOutcome → Type 0
IsLeftBy script items outcome = IsLeftIn script (world_after script items) outcome

-- the outcome is what is left when all items of the script have acted in their order
abbrev pub IsReplayOf : PlainScript → PlainOutcome → Type 0
IsReplayOf script outcome = IsLeftBy script (items_of script.rows) outcome

-- the outcome is what is left when these rows have acted, each by itself
abbrev pub IsLeftByRows : PlainScript → List PlainRow → PlainOutcome → Type 0
IsLeftByRows script rows outcome = IsLeftIn script (fold rows (start_world script)) outcome

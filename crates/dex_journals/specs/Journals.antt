-- Markets and wallets as the values of gates: each with its journal, whose entries have stamps.
use Rattle.std.specs.Prelude.{ℕ, ◌≡◌, ◌==◌, ◌≤◌, ◌<◌, List, [], ◌∷◌, ◌++◌, All, length}
use Rattle.std.specs.List.{filter}
use Rattle.dex_types.specs.declared.movements.WalletEntry.{WalletEntry}
use Rattle.dex_types.specs.Accounts.{PlainAccount, PlainMarketAccounts}
use Rattle.dex_types.specs.Rows.{PlainRow, row_of}
use Rattle.dex_history.specs.Journal.{Call}
use Rattle.dex_cell.specs.CellState.{IsMarketCell, MarketCellState}
use Rattle.dex_wallet.specs.CellState.{CellState, IsWalletCell}
use Rattle.dex_act.specs.declared.places.WalletPlaces.{WalletPlaces}
use Rattle.dex_act.specs.Steps.{Terms}
use Rattle.dex_act.specs.declared.steps.Legs.{Legs}
use Rattle.dex_act.specs.Steps.{HasWallets, IsTakeOrRefused}
use Rattle.dex_act.specs.Wallets.{made_of}
use Rattle.dex_world.specs.Items.{ShareNothing}
use Rattle.dex_script_types.specs.PlainScript.{PlainScript}
use Rattle.dex_world.specs.RowsOf.{rows_naming, rows_of_market, rows_of_wallet, rows_on}
use Rattle.dex_stamps.specs.Stamped.{AreRising, Stamped, stamped}

-- ---- a market

-- what no turn changes of a market: its first accounts, and the script whose rows act on it
pub record MarketOrigin : Type 0 where
  pub start : PlainMarketAccounts
  pub script : PlainScript

-- a market's cell, the stamps of its calls and the last of them (0 where there is none), and the script
pub record BankMarketState : Type 0 where
  pub cell : MarketCellState
  pub stamps : List ℕ
  pub last : ℕ
  pub script : PlainScript

-- the calls with their stamps
abbrev pub market_calls : BankMarketState → List (Stamped Call)
market_calls market = stamped market.cell.calls market.stamps

-- where the market's journal starts: its first accounts, and the script
abbrev pub market_origin : BankMarketState → MarketOrigin
market_origin market = record { start = market.cell.start; script = market.script }

-- how many calls of a lane there are
abbrev pub calls_by : ℕ → List Call → ℕ
calls_by lane calls = length (filter (λ (call : Call). call.asked.lane == lane) calls)

-- with one call more, under a stamp
abbrev pub market_more : BankMarketState → MarketCellState → ℕ → BankMarketState
market_more market cell stamp = record market { cell = cell; stamps = market.stamps ++ stamp ∷ []; last = stamp }

-- what always holds of it: the calls have rising stamps; each lane has made at most as many as it has rows on the
-- market; and there is room for all rows on the market
pub record IsBankMarket (market : BankMarketState) : Type 0 where
  pub cell : IsMarketCell market.cell
  pub counted : length market.stamps ≡ length market.cell.calls
  pub rising : AreRising (market_calls market)
  pub below : All (λ (stamp : ℕ). stamp ≤ market.last) market.stamps
  pub room : market.cell.room ≡ rows_on market.cell.start.address market.script.rows
  pub lanes : (lane : ℕ)
      → calls_by lane market.cell.calls ≤ length (rows_of_market lane market.cell.start.address market.script.rows)

-- a row may act on the market under a stamp, and on the wallets in hand, which stand at these places: its lane has a
-- row left on the market, and the stamp is above all of its journal's
pub record MayStep (row : PlainRow) (places : WalletPlaces) (stamp : ℕ) (market : BankMarketState) (cells : List CellState)
    : Type 0 where
  pub on : row.market ≡ market.cell.accounts.address
  pub lane : calls_by row.lane market.cell.calls
      < length (rows_of_market row.lane market.cell.start.address market.script.rows)
  pub above : market.last < stamp
  pub wallets : HasWallets row places cells

-- so may both legs of a swap, which share no market and no wallet; each of the two is a take, or is refused
pub record MayStepBoth (terms : Terms) (legs : Legs) (stamp : ℕ) (first second : BankMarketState) (wallets : List CellState)
    : Type 0 where
  pub first_may : MayStep (row_of legs.first.row.now) legs.first.places stamp first wallets
  pub second_may : MayStep (row_of legs.second.row.now) legs.second.places stamp second wallets
  pub share : ShareNothing (row_of legs.first.row.now) (row_of legs.second.row.now)
  pub first_take : IsTakeOrRefused terms (row_of legs.first.row.now) first.cell wallets
  pub second_take : IsTakeOrRefused terms (row_of legs.second.row.now) second.cell wallets

-- ---- a wallet

-- what no turn changes of a wallet: its first account, and the script whose rows name it
pub record WalletOrigin : Type 0 where
  pub start : PlainAccount
  pub script : PlainScript

-- a wallet's cell, the stamps of its entries and the last of them (0 where there is none), and the script
pub record BankWalletState : Type 0 where
  pub cell : CellState
  pub stamps : List ℕ
  pub last : ℕ
  pub script : PlainScript

-- the entries with their stamps
abbrev pub wallet_entries : BankWalletState → List (Stamped WalletEntry)
wallet_entries wallet = stamped wallet.cell.entries wallet.stamps

-- where the wallet's journal starts: its first account, and the script
abbrev pub wallet_origin : BankWalletState → WalletOrigin
wallet_origin wallet =
    record { start = record { address = wallet.cell.address; bytes = wallet.cell.start }; script = wallet.script }

-- how many entries of a lane there are
abbrev pub entries_by : ℕ → List WalletEntry → ℕ
entries_by lane entries = length (filter (λ (entry : WalletEntry). entry.lane == lane) entries)

-- with one entry more, under a stamp
abbrev pub wallet_more : BankWalletState → CellState → ℕ → BankWalletState
wallet_more wallet cell stamp = record wallet { cell = cell; stamps = wallet.stamps ++ stamp ∷ []; last = stamp }

-- what always holds of it: the entries have rising stamps; each lane has made at most as many as it has rows that name
-- the wallet; and there is room for all rows that name it
pub record IsBankWallet (wallet : BankWalletState) : Type 0 where
  pub cell : IsWalletCell wallet.cell
  pub counted : length wallet.stamps ≡ length wallet.cell.entries
  pub rising : AreRising (wallet_entries wallet)
  pub below : All (λ (stamp : ℕ). stamp ≤ wallet.last) wallet.stamps
  pub room : wallet.cell.room ≡ rows_naming wallet.cell.address wallet.script.rows
  pub lanes : (lane : ℕ)
      → entries_by lane wallet.cell.entries ≤ length (rows_of_wallet lane wallet.cell.address wallet.script.rows)

-- ---- a wallet whose cell is out for a row

-- what stays behind: the cell as it was taken out, the stamps, the last of them, and the script
pub record TrailState : Type 0 where
  pub before : CellState
  pub stamps : List ℕ
  pub last : ℕ
  pub script : PlainScript

-- the wallet as it was before its cell was taken out
abbrev pub left_by : TrailState → BankWalletState
left_by trail = record { cell = trail.before; stamps = trail.stamps; last = trail.last; script = trail.script }

-- the cell has one entry more, and is else the same wallet's
pub record AddsEntry (before after : CellState) : Type 0 where
  pub entry : WalletEntry
  pub entries : after.entries ≡ before.entries ++ entry ∷ []
  pub made : made_of after ≡ made_of before

-- it may come back: one entry more, of a lane that may make one more
pub record MayComeBack (trail : TrailState) (after : CellState) : Type 0 where
  pub adds : AddsEntry trail.before after
  pub lane : entries_by adds.entry.lane trail.before.entries
      < length (rows_of_wallet adds.entry.lane trail.before.address trail.script.rows)

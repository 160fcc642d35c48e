-- The cells of an exchange, and the world that they are.
use Rattle.std.specs.Prelude.{◌≡◌, Bool, true, false, List, [], ◌∷◌, map, All, Option, Some, is_some}
use Rattle.std.specs.List.{AllZip, list_any}
use Rattle.dex_types.specs.declared.addresses.Address.{Address}
use Rattle.dex_types.specs.declared.replies.Reply.{Reply}
use Rattle.dex_types.specs.declared.terms.Program.{Program}
use Rattle.dex_types.specs.Accounts.{PlainAccount, PlainMarketAccounts}
use Rattle.dex_types.specs.Addresses.{is_same}
use Rattle.dex_types.specs.Market.{Market}
use Rattle.dex_types.specs.Rows.{PlainRow}
use Rattle.dex_instruction.specs.Reading.{decoded}
use Rattle.dex_history.specs.Journal.{is_take, row_step}
use Rattle.dex_types.specs.Wallets.{row_wallets}
use Rattle.dex_cell.specs.CellState as market_cell
use Rattle.dex_cell.specs.CellState.{IsMarketCell, MarketCellState}
use Rattle.dex_wallet.specs.CellState as wallet_cell
use Rattle.dex_wallet.specs.CellState.{CellState, IsWalletCell}
use Rattle.dex_world.specs.Fold.{names}
use Rattle.dex_world.specs.Groups.{members}
use Rattle.dex_world.specs.Items.{Item, ShareNothing, chosen, why_in}
use Rattle.dex_world.specs.World.{World, market_at, seen_by}
pub use Rattle.dex_act.specs.Opened.{market_state_of}
use Rattle.dex_act.specs.Wallets.{AreApart, is_among, wallet_state_of}

-- the mints and which of them are SRM and MSRM, the cells of the markets and of the wallets in declared order, and the
-- program
pub record CellsState : Type 0 where
  pub mints : List PlainAccount
  pub srm : Option Address
  pub msrm : Option Address
  pub markets : List MarketCellState
  pub wallets : List CellState
  pub program : Program

-- the world of all cells
abbrev pub world_of : CellsState → World
world_of cells = record {
  markets = map market_state_of cells.markets;
  wallets = map wallet_state_of cells.wallets;
  srm = cells.srm;
  msrm = cells.msrm;
  program = cells.program;
}

-- what always holds of cells: each is one, and no two wallets have one address
pub record AreCells (cells : CellsState) : Type 0 where
  pub markets : All IsMarketCell cells.markets
  pub wallets : All IsWalletCell cells.wallets
  pub apart : AreApart cells.wallets

-- ---- what a row needs

-- one of the cells is that of the market of this address
abbrev pub is_market : Address → List MarketCellState → Bool
is_market address cells = list_any (λ (cell : MarketCellState). is_same address cell.accounts.address) cells

-- the row names a market and wallets that are here, and each cell that it names has room for one entry more
pub record CanAct (row : PlainRow) (cells : CellsState) : Type 0 where
  pub market : is_market row.market cells.markets ≡ true
  pub wallets : All (λ (address : Address). is_among address cells.wallets ≡ true) (row_wallets row)
  pub market_spare :
      All (λ (cell : MarketCellState). is_same row.market cell.accounts.address ≡ true → market_cell.HasSpare cell)
      cells.markets
  pub wallet_spare : All (λ (cell : CellState). names row cell.address ≡ true → wallet_cell.HasSpare cell) cells.wallets

-- what is no take is refused in the world that the cells are
abbrev pub IsTakeOrRefused : PlainRow → CellsState → Type 0
IsTakeOrRefused row cells = is_take (decoded row.bytes) ≡ false → is_some (why_in (world_of cells) row) ≡ true

-- both can act, and share no market and no wallet; each of the two is a take, or is refused
pub record CanActBoth (first second : PlainRow) (cells : CellsState) : Type 0 where
  pub first_can : CanAct first cells
  pub second_can : CanAct second cells
  pub share : ShareNothing first second
  pub first_take : IsTakeOrRefused first cells
  pub second_take : IsTakeOrRefused second cells

-- ---- what rows are answered

-- the reply of the market that a row finds in a world
abbrev pub IsReply : World → PlainRow → Reply → Type 0
IsReply world row reply =
    (m : Market) → market_at row.market world.markets ≡ Some m → reply ≡ (row_step row (seen_by row world) m).reply

-- the replies to the rows of an item of two, each to what its row does there
abbrev pub AreReplies : World → Item → Reply × Reply → Type 0
AreReplies world item replies = AllZip (IsReply world) (chosen world (members item)) (replies.0 ∷ replies.1 ∷ [])

-- ---- what no row changes

-- the cells as they were opened
abbrev pub opened_of : CellsState → CellsState
opened_of cells = record cells {
  markets = map (λ (cell : MarketCellState). market_cell.new_cell cell.start cell.room) cells.markets;
  wallets = map (λ (cell : CellState). wallet_cell.new_cell cell.address cell.start cell.room) cells.wallets;
}

-- the accounts of markets
abbrev pub accounts_in : List MarketCellState → List PlainMarketAccounts
accounts_in cells = map (λ (cell : MarketCellState). cell.accounts) cells

-- the cells of other markets than that of this address are as they were
abbrev pub OthersStay : Address → List MarketCellState → List MarketCellState → Type 0
OthersStay address before after =
    AllZip (λ (old new : MarketCellState). is_same address old.accounts.address ≡ false → new ≡ old) before after

-- the cells of other markets than those of these two addresses are as they were
abbrev pub OthersThanTwoStay : Address → Address → List MarketCellState → List MarketCellState → Type 0
OthersThanTwoStay one other before after =
    AllZip (λ (old new : MarketCellState). is_same one old.accounts.address ≡ false
    → is_same other old.accounts.address ≡ false → new ≡ old) before after

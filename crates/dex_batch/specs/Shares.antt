-- The rows of a group, on its own cells.
use Rattle.std.specs.Prelude.{◌≡◌, ℕ, ◌<◌, List, [], length, slice_index_or}
use Rattle.std.specs.List.{AllZip}
use Rattle.dex_types.specs.Rows.{PlainRow}
use Rattle.dex_cell.specs.CellState.{MarketCellState}
use Rattle.dex_wallet.specs.CellState.{CellState}
use Rattle.dex_bank.specs.Cells.{CellsState}
use Rattle.dex_act.specs.Steps.{Terms}
use Rattle.dex_batch.specs.Acting.{HaveActed, HaveTheirAddress, IsHere}
use Rattle.dex_batch.specs.Parts.{part}
use Rattle.dex_batch.specs.Rooms.{HasRoom}

-- rows with a number beside each, a number, and cells
pub record ShareState : Type 0 where
  pub rows : List PlainRow
  pub numbers : List ℕ
  pub number : ℕ
  pub cells : CellsState

abbrev pub share : List PlainRow → List ℕ → ℕ → CellsState → ShareState
share rows numbers number cells = record { rows = rows; numbers = numbers; number = number; cells = cells }

-- the rows of the number can act on the cells, which have room for all of them
pub record IsReady (share : ShareState) : Type 0 where
  pub their : HaveTheirAddress share.cells
  pub here : AllZip (λ (n : ℕ) (row : PlainRow). n ≡ share.number → IsHere share.cells row) share.numbers share.rows
  pub room : HasRoom share.rows share.cells

-- they have acted
abbrev pub HasRun : ShareState → ShareState → Type 0
HasRun before after = HaveActed (part before.numbers before.number before.rows) before.rows before.cells after.cells

-- cells without mints
abbrev pub own_cells : Terms → List MarketCellState → List CellState → CellsState
own_cells terms markets wallets = record {
  mints = [];
  srm = terms.srm;
  msrm = terms.msrm;
  markets = markets;
  wallets = wallets;
  program = terms.program;
}

-- the share of a number, of these piles of cells
abbrev pub share_at : List PlainRow → List ℕ → Terms → List (List MarketCellState) → List (List CellState) → ℕ → ShareState
share_at rows numbers terms markets wallets number =
    share rows numbers number (own_cells terms (slice_index_or markets number []) (slice_index_or wallets number []))

-- there is a share for each number
pub record AreShares (rows : List PlainRow) (numbers : List ℕ) (terms : Terms) (markets : List (List MarketCellState)) (wallets : List (List CellState))
    (shares : List ShareState) : Type 0 where
  pub long : length shares ≡ length markets
  pub each : (number : ℕ) (d : ShareState) → number < length shares → slice_index_or shares number d ≡ share_at rows numbers terms markets wallets number

-- Rows at their markets.
use Rattle.std.specs.Prelude.{◌≡◌, ℕ, ◌<◌, true, false, List, length, slice_index_or, slice_set}
use Rattle.dex_types.specs.declared.addresses.Address.{Address}
use Rattle.dex_types.specs.Addresses.{is_same}
use Rattle.dex_cell.specs.CellState.{MarketCellState}
use Rattle.dex_wallet.specs.CellState.{CellState}
use Rattle.dex_act.specs.Steps.{Terms, AreStepsOn}
use Rattle.dex_act.specs.declared.steps.Legs.{Legs}
use Rattle.dex_act.specs.declared.steps.RowDone.{RowDone}

-- the first of the cells whose market has this address stands at the place
pub record IsFirstAt (address : Address) (cells : List MarketCellState) (place : ℕ) : Type 0 where
  pub within : place < length cells
  pub here : (default : MarketCellState) → is_same address (slice_index_or cells place default).accounts.address ≡ true
  pub before : (k : ℕ) → k < place → (default : MarketCellState)
      → is_same address (slice_index_or cells k default).accounts.address ≡ false

-- the two legs of a swap acted on the markets at these places, and the others are as they were
pub record AreStepsAt (terms : Terms) (legs : Legs) (dones : RowDone × RowDone) (one two : ℕ) (before after : List MarketCellState)
    (cells left : List CellState) : Type 0 where
  pub first : MarketCellState
  pub second : MarketCellState
  pub are : after ≡ slice_set (slice_set before one first) two second
  pub steps : (default : MarketCellState)
      → AreStepsOn terms legs dones (slice_index_or before one default) first (slice_index_or before two default) second cells left

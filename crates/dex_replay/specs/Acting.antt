-- Items that act one after the other, until no row is left.
use Rattle.std.specs.Prelude.{◌≡◌, ℕ, ◌<◌, ◌≤◌, List, ◌∷◌, ◌++◌, All, Option, drop, get_or, length, slice_get}
use Rattle.std.specs.List.{AllPairs, flat_map}
use Rattle.dex_world.specs.declared.places.RowPlaces.{RowPlaces}
use Rattle.dex_types.specs.Rows.{PlainRow}
use Rattle.dex_cell.specs.CellState.{MarketCellState}
use Rattle.dex_world.specs.Groups.{members}
use Rattle.dex_world.specs.Items.{Item, fold_items, items_of}
use Rattle.dex_bank.specs.Cells.{CellsState, opened_of, world_of}
use Rattle.dex_bank.specs.Opened.{opened}
use Rattle.dex_bank.specs.Places.{ArePlacedIn}
use Rattle.dex_script_types.specs.PlainScript.{PlainScript}
use Rattle.dex_script_types.specs.Facts.{HasNoThree}
use Rattle.dex_replay.specs.Replays.{start_world}

-- of two rows the later one has no lower number
abbrev pub NeverFalls : PlainRow → PlainRow → Type 0
NeverFalls one other = one.number ≤ other.number

-- the items of a script have acted on the cells up to these rows, which begin with an item and stand among the cells at
-- these places
pub record AreLeft (script : PlainScript) (left : List PlainRow) (places : List RowPlaces) (cells : CellsState) : Type 0 where
  pub done : List Item
  pub items : items_of script.rows ≡ done ++ items_of left
  pub rows : flat_map members done ++ left ≡ script.rows
  pub rising : AllPairs NeverFalls left
  pub two : HasNoThree left
  pub placed : ArePlacedIn cells left places
  pub opened : opened_of cells ≡ opened script
  pub addresses : All (λ (cell : MarketCellState). cell.accounts.address ≡ cell.start.address) cells.markets
  pub acted : world_of cells ≡ fold_items done (start_world script)

-- a row is left, and after it others, with this one in front if there is any; it stands at the first of these places,
-- and the one after it at the second
pub record IsNext (script : PlainScript) (row : PlainRow) (behind : Option PlainRow) (others : List PlainRow) (places : List RowPlaces) (at at_behind : RowPlaces)
    (cells : CellsState) : Type 0 where
  pub left : AreLeft script (row ∷ others) places cells
  pub front : behind ≡ slice_get others 0
  pub stands : get_or places 0 at ≡ at
  pub stands_behind : get_or places 1 at_behind ≡ at_behind

-- this many of these rows were an item, and it has acted
pub record HaveActed (script : PlainScript) (rows : List PlainRow) (places : List RowPlaces) (count : ℕ) (cells : CellsState) : Type 0 where
  pub some : 0 < count
  pub within : count ≤ length rows
  pub left : AreLeft script (drop count rows) (drop count places) cells

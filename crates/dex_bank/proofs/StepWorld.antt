-- What no row changes of cells.
use Rattle.std.proofs.Common.{◌≡◌, List, map, refl, sym, ap, ◌∙◌}
use Rattle.dex_world.proofs.Common.{Address}
use Rattle.dex_bank.proofs.Common.{CellState, CellsState, MarketCellState, is_among, made_of, opened_of}
use Rattle.dex_cell.specs.CellState.{new_cell}
use Rattle.dex_act.proofs.CellLists.{is_among-map}

-- a market's cell as it was opened
abbrev pub opened_market : MarketCellState → MarketCellState
opened_market cell = new_cell cell.start cell.room

-- the wallets' cells as they were opened have their addresses
pub among-opened : (address : Address) (cells : List CellState) → is_among address (map made_of cells) ≡ is_among address cells
among-opened address cells = is_among-map address made_of cells (λ cell. refl)

-- so cells that were opened alike are of the same wallets
pub same-wallets : (address : Address) (cells other : CellsState) → opened_of cells ≡ opened_of other → is_among address cells.wallets ≡ is_among address other.wallets
same-wallets address cells other alike =
    sym (among-opened address cells.wallets)
    ∙ ap (λ (c : CellsState). is_among address c.wallets) alike
    ∙ among-opened address other.wallets

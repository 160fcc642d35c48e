-- Rows in pieces.
use Rattle.std.specs.Prelude.{◌≡◌, List, Vec, length}
use Rattle.std.specs.List.{flat_map}
use Rattle.std.specs.declared.alloc.Global.{Global}
use Rattle.dex_types.specs.declared.rows.Row.{Row}
use Rattle.dex_script_types.specs.declared.row_list.RowList.TheInside.{Inside}

-- the rows of these pieces, one after the other
abbrev pub rows_in : List (Vec Row Global) → List Row
rows_in pieces = flat_map (λ (piece : Vec Row Global). piece.items) pieces

-- the rows of a list
abbrev pub rows_inside : Inside → List Row
rows_inside inside = rows_in inside.pieces.items

-- they are counted
abbrev pub IsCounted : Inside → Type 0
IsCounted inside = inside.count ≡ length (rows_inside inside)

use Rattle.std.proofs.Common.{map, sym, subst}
use Rattle.dex_world.proofs.Common.{accounts_of, row_of}
use Rattle.dex_bank.proofs.Common.{ArePlacedIn, CellsState}
use Rattle.dex_bank.proofs.Stands.{placed-stand}
use Rattle.dex_bank.proofs.cells.Cells.of_script.Goals as goal

pub returns-clause-places : goal.returns-clause-places
returns-clause-places c =
    let inside = c.script.inside in
    let rows = map row_of inside.rows in
    subst (λ (cells : CellsState). ArePlacedIn cells rows inside.places.items) (sym c.in_ok-cells.ensures)
    (placed-stand rows (accounts_of inside.start) inside.program rows inside.places.items c.script.invariant.1)

use Rattle.std.proofs.Common.{sym, subst, ◌∙◌, Option}
use Rattle.dex_world.proofs.Common.{Row, row_of}
use Rattle.dex_bank.proofs.Common.{CanAct, RowPlaces}
use Rattle.std.specs.Prelude.{IfSome}
use Rattle.dex_bank.specs.Places.{ArePlacesIn, StandsAt}
use Rattle.dex_bank.proofs.Stands.{stands-told}
use Rattle.dex_bank.proofs.standing.Standing.of.Goals as goal

pub returns-in-Some : goal.returns-in-Some
returns-in-Some g c =
    let row = row_of (g.W.AsRow.is c.args.row.now) in
    subst (λ (standing : _). StandsAt c.args.cells.now row standing.market standing.wallets) (sym c.told.ensures)
    (stands-told c.args.cells.now row c.in-Some.places
    (subst (λ (o : Option RowPlaces). IfSome o (ArePlacesIn c.args.cells.now row)) (sym c.places.ensures ∙ c.in-Some.is) c.requires.placed))

pub among-requires : goal.among-requires
among-requires g c = subst (λ (row : Row). CanAct (row_of row) c.args.cells.now) (sym c.row.ensures) c.requires.row

pub returns-in-None : goal.returns-in-None
returns-in-None g c = subst (λ (row : Row). StandsAt c.args.cells.now (row_of row) c.among.result.market c.among.result.wallets) c.row.ensures c.among.ensures

use Rattle.std.proofs.Common.{sym, subst, ◌∙◌, Option}
use Rattle.std.specs.Prelude.{IfSome}
use Rattle.dex_types.specs.declared.rows.Row.{Row}
use Rattle.dex_world.specs.declared.places.RowPlaces.{RowPlaces}
use Rattle.dex_types.specs.Rows.{row_of}
use Rattle.dex_script_types.specs.Facts.{IsRowOf}
use Rattle.dex_script_types.specs.Places.{IsPlaced}
use Rattle.dex_turns.proofs.outline.Outline.places_of.Goals as goal

pub returns-in-Some : goal.returns-in-Some
returns-in-Some g c =
    subst (λ (o : Option RowPlaces). IfSome o (IsPlaced c.args.self.now.start (row_of (g.W.AsRow.is c.args.row.now)))) (sym c.places.ensures ∙ c.in-Some.is) c.requires.placed

pub look_up-requires : goal.look_up-requires
look_up-requires g c = subst (λ (row : Row). IsRowOf c.args.self.now.start (row_of row)) (sym c.row.ensures) c.requires.row

pub returns-in-None : goal.returns-in-None
returns-in-None g c = subst (λ (row : Row). IsPlaced c.args.self.now.start (row_of row) c.look_up.result) c.row.ensures c.look_up.ensures

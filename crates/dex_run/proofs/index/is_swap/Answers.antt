use Rattle.std.proofs.Common.{◌≡◌, ◌<◌, ◌+◌, ◌∙◌, List, arith, get_or, length, map, sym, ℕ, eq-eqb, eqb-true}
use Rattle.dex_world.proofs.Common.{Row, false≢true, row_of}
use Rattle.dex_world.specs.declared.places.RowPlaces.{RowPlaces}
use Rattle.dex_script_types.specs.Places.{AreBeside}
use Rattle.dex_run.proofs.LaneRows.{beside-long, nothing, number-beside}
use Rattle.dex_run.proofs.index.is_swap.Goals as goal

module _ (rows : List Row) (places : List RowPlaces) (are : AreBeside (map row_of rows) places) (place : ℕ) (row : Row) (within : place + 1 < length rows) where
  first : (get_or places place nothing).number ≡ (get_or rows place row).number
  first = number-beside rows places are place row nothing (omega (arith, within))

  second : (get_or places (place + 1) nothing).number ≡ (get_or rows (place + 1) row).number
  second = number-beside rows places are (place + 1) row nothing within

pub returns-then-places-place-gt1-clause-yes : goal.returns-then-places-place-gt1-clause-yes
returns-then-places-place-gt1-clause-yes c = λ is rows are row.
    let places = c.args.places.now in
    let within : c.args.place + 1 < length rows = omega (arith, c.if-places-place-gt1.true, beside-long rows places are) in
    (within, sym (first rows places are c.args.place row within) ∙ eqb-true _ _ is ∙ second rows places are c.args.place row within)

pub returns-then-places-place-gt1-clause-no : goal.returns-then-places-place-gt1-clause-no
returns-then-places-place-gt1-clause-no c = λ is rows are row within same.
    let places = c.args.places.now in
    false≢true
    (sym is ∙ eq-eqb _ _ (first rows places are c.args.place row within ∙ same ∙ sym (second rows places are c.args.place row within)))

pub returns-else-places-place-gt1-clause-no : goal.returns-else-places-place-gt1-clause-no
returns-else-places-place-gt1-clause-no c = λ is rows are row within same.
    omega (arith, c.if-places-place-gt1.false, within, beside-long rows c.args.places.now are)

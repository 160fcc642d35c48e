use Rattle.std.proofs.Common.{◌∷◌, List, map, ap, ◌∙◌}
use Rattle.dex_types.specs.declared.rows.Row.{Row}
use Rattle.dex_types.specs.Rows.{row_of}
use Rattle.dex_tests.proofs.BareLaws.{can-alone, none-left}
use Rattle.dex_tests.proofs.bare.act_first.Goals as goal

pub step-requires-clause-row : goal.step-requires-clause-row
step-requires-clause-row c =
    let script = c.requires in
    can-alone script.0 (row_of c.in_ok-row.row.now) (map row_of c.args.rows.now) c.args.cells.now script.1 script.2 script.3
    (ap (map row_of) (c.in_ok-row.ensures.cases.0 ∙ ap (λ (l : List Row). c.in_ok-row.row.now ∷ l) (none-left c.in_ok-row.others.now c.if-others-ne0.false)))

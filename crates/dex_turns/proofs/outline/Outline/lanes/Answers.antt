use Rattle.std.proofs.Common.{◌≤◌, List, [], ◌∷◌, arith}
use Rattle.std.specs.List.{All}
use Rattle.dex_world.proofs.Common.{All-head, All-tail, PlainAccounts, PlainRow}
use Rattle.dex_script_types.specs.Facts.{IsRowOf, lanes_of}
use Rattle.dex_turns.proofs.outline.Outline.lanes.Goals as goal

lanes_of-some : (rows : List PlainRow) → 1 ≤ lanes_of rows
lanes_of-some [] = omega arith
lanes_of-some (row ∷ rows) = omega (arith, lanes_of-some rows)

lanes_of-few : (start : PlainAccounts) (rows : List PlainRow) → All (IsRowOf start) rows → lanes_of rows ≤ 16
lanes_of-few start [] each = omega arith
lanes_of-few start (row ∷ rows) each =
    omega (arith, (All-head (IsRowOf start) row rows each).lane, lanes_of-few start rows (All-tail (IsRowOf start) row rows each))

pub returns-clause-some : goal.returns-clause-some
returns-clause-some c =
    let script = c.self.inside.script.value in
    omega (arith, c.self.invariant.lanes, c.self.invariant.script.rows.lanes, lanes_of-some script.rows)

pub returns-clause-few : goal.returns-clause-few
returns-clause-few c =
    let script = c.self.inside.script.value in
    omega (arith, c.self.invariant.lanes, c.self.invariant.script.rows.lanes, lanes_of-few script.start script.rows c.self.invariant.script.rows.each)

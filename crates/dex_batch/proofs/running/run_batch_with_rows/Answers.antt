use Rattle.std.proofs.Common.{List, map, ap, sym, subst, ◌∙◌}
use Rattle.dex_world.proofs.Common.{Row, row_of}
use Rattle.dex_replay.proofs.Common.{IsReplayOf, outcome_of}
use Rattle.dex_bank.specs.Places.{ArePlacedIn}
use Rattle.dex_batch.proofs.Openings.{can-cells, left-cells}
use Rattle.dex_batch.proofs.running.run_batch_with_rows.Goals as goal

pub work_all-requires-clause-can : goal.work_all-requires-clause-can
work_all-requires-clause-can g c κs within =
    can-cells c.args.script c.in_ok-cells.ensures.script c.in_ok-cells.cells c.in_ok-cells.ensures.cells (map row_of c.deref.result.now)
    (ap (λ (rows : List Row). map row_of rows) (c.deref.ensures.value ∙ c.in_ok-rows.ensures) ∙ c.in_ok-cells.ensures.rows) c.deref-2.result.now
    (subst (ArePlacedIn c.in_ok-cells.cells (map row_of c.deref.result.now)) (sym c.deref-2.ensures.value)
    (subst (λ (rows : List Row). ArePlacedIn c.in_ok-cells.cells (map row_of rows) c.in_ok-cells.places.items) (sym (c.deref.ensures.value ∙ c.in_ok-rows.ensures)) c.in_ok-cells.ensures.places))

pub returns-in-Ok-clause-outcome : goal.returns-in-Ok-clause-outcome
returns-in-Ok-clause-outcome g c =
    subst (IsReplayOf c.args.script) (sym c.in-Ok.ensures.outcome)
    (left-cells c.args.script c.in_ok-cells.ensures.script c.in_ok-cells.cells c.in_ok-cells.ensures.cells (map row_of c.deref.result.now)
    (ap (λ (rows : List Row). map row_of rows) (c.deref.ensures.value ∙ c.in_ok-rows.ensures) ∙ c.in_ok-cells.ensures.rows) c.in_ok-left.left c.in-Ok.ensures.cells c.requires.rows c.in_ok-left.ensures)

pub returns-in-Ok-clause-run : goal.returns-in-Ok-clause-run
returns-in-Ok-clause-run g c =
    let script = c.args.script in
    let outcome = outcome_of c.in-Ok.outcome in
    c.what_one_order_leaves_is_a_run.ensures script outcome c.in_ok-cells.ensures.script
    (c.a_replay_is_in_one_order.ensures script outcome c.in_ok-cells.ensures.script (returns-in-Ok-clause-outcome g c))

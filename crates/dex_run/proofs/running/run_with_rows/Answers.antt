use Rattle.std.proofs.Common.{List, ap, arith, length, map, sym, subst, ◌∙◌}
use Rattle.dex_world.proofs.Common.{range_with_len, row_of}
use Rattle.dex_replay.proofs.Common.{IsOneOrder, IsRunOf, IsScript, PlainScript, outcome_of}
use Rattle.dex_world.specs.declared.places.RowPlaces.{RowPlaces}
use Rattle.dex_script_types.specs.Places.{AreBeside, ArePlaced}
use Rattle.dex_world.proofs.MappedLists.{All-second, zip-map}
use Rattle.dex_run.proofs.Common.{HasRun, IsIndex, IsSeatOf, SeatState}
use Rattle.dex_run.proofs.Jobs.{after-done, lane-below}
use Rattle.dex_run.proofs.running.run_with_rows.Goals as goal

pub places_by_lane-requires : goal.places_by_lane-requires
places_by_lane-requires g c = record {
  rows = (
    c.args.script,
    c.in_ok-cells.ensures.script.rows,
    c.in_ok-cells.ensures.rows,
    c.lanes.ensures.lanes ∙ ap (λ (s : PlainScript). s.lanes) c.in_ok-outline.ensures,
  );
  beside =
      subst (AreBeside (map row_of c.in_ok-cells.rows)) (sym c.deref.ensures.value) c.in_ok-cells.ensures.beside;
}

-- each seat may run all rows of the script
pub run_all-requires-after_bounds : goal.run_all-requires-after_bounds
run_all-requires-after_bounds g c κs bounds = λ k d within.
    let script_is = sym (c.in_ok-bank.ensures.bank ∙ c.in_ok-outline.ensures) in
    record {
      are = record {
        is = subst IsScript script_is c.in_ok-cells.ensures.script;
        rows_are = c.in_ok-cells.ensures.rows ∙ ap (λ (s : PlainScript). s.rows) script_is;
        placed =
            subst (λ (s : PlainScript). ArePlaced s.start (map row_of c.in_ok-cells.rows) c.deref-3.result.now) script_is
            (subst (λ (places : List RowPlaces). ArePlaced c.args.script.start (map row_of c.in_ok-cells.rows) places) (sym c.deref-3.ensures.value) c.in_ok-cells.ensures.placed);
        beside = subst (AreBeside (map row_of c.in_ok-cells.rows)) (sym c.deref-3.ensures.value) c.in_ok-cells.ensures.beside;
      };
      of_bank = c.in_ok-bank.ensures.seats k d within;
      fresh = c.in_ok-bank.ensures.fresh k d within;
      index = subst (IsIndex c.in_ok-cells.rows) (sym c.deref-4.ensures.value) c.in_ok-by_lane.ensures.index;
      within =
          omega (
            arith,
            lane-below c.in_ok-bank.seats.items c.in_ok-outline.outline.lanes c.in_ok-bank.ensures.lanes k d within,
            c.lanes.ensures.lanes,
            c.in_ok-by_lane.ensures.count,
            ap length c.deref-4.ensures.value,
          );
    }

pub close-requires-clause-seats : goal.close-requires-clause-seats
close-requires-clause-seats g c =
    All-second (HasRun c.in_ok-bank.bank) (IsSeatOf c.in_ok-bank.bank) (λ seat done has. has.of_bank) c.in_ok-bank.seats.items c.in_ok-seats.seats.items c.in_ok-seats.ensures

pub close-requires-clause-lanes : goal.close-requires-clause-lanes
close-requires-clause-lanes g c =
    zip-map (HasRun c.in_ok-bank.bank) (λ (seat : SeatState). seat.lane) (λ (seat : SeatState). seat.lane) (λ seat done has. has.lane) c.in_ok-bank.seats.items
    c.in_ok-seats.seats.items c.in_ok-seats.ensures
    ∙ c.in_ok-bank.ensures.lanes
    ∙ ap (λ (s : PlainScript). range_with_len 0 s.lanes) (sym c.in_ok-bank.ensures.bank)

pub returns-in-Ok-clause-run : goal.returns-in-Ok-clause-run
returns-in-Ok-clause-run g c =
    subst (λ (s : PlainScript). IsRunOf s (outcome_of c.in-Ok.outcome)) (c.in_ok-bank.ensures.bank ∙ c.in_ok-outline.ensures)
    (c.in-Ok.ensures.run (after-done c.in_ok-bank.bank c.in_ok-bank.seats.items c.in_ok-seats.seats.items c.in_ok-seats.ensures))

pub returns-in-Ok-clause-one_order : goal.returns-in-Ok-clause-one_order
returns-in-Ok-clause-one_order g c =
    subst (λ (s : PlainScript). IsOneOrder s (outcome_of c.in-Ok.outcome)) (c.in_ok-bank.ensures.bank ∙ c.in_ok-outline.ensures)
    (c.in-Ok.ensures.one_order (after-done c.in_ok-bank.bank c.in_ok-bank.seats.items c.in_ok-seats.seats.items c.in_ok-seats.ensures))

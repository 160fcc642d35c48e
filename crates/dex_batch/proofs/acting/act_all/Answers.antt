use Rattle.std.proofs.Common.{arith}
use Rattle.std.proofs.lemmas.List.{get_or_default}
use Rattle.dex_batch.proofs.ActLaws.{all-more, next-can, next-stands, places-long}
use Rattle.dex_batch.proofs.acting.act_all.Goals as goal

pub bounds-places-place : goal.bounds-places-place
bounds-places-place g c = omega (arith, places-long c.args.rows.now c.args.places.now _ c.requires)

pub step-requires-clause-row : goal.step-requires-clause-row
step-requires-clause-row g c =
    next-can c.args.rows.now c.loop-place.place c.index-rows-place.result (omega arith) c.index-rows-place.is c.args.places.now c.args.cells.now c.loop-place.cells c.requires
    c.loop-place.invariant

pub step-requires-clause-placed : goal.step-requires-clause-placed
step-requires-clause-placed g c =
    next-stands c.args.rows.now c.loop-place.place c.index-rows-place.result (omega arith) c.index-rows-place.is c.args.places.now c.args.cells.now c.loop-place.cells c.requires
    c.loop-place.invariant _
    (get_or_default c.args.places.now c.loop-place.place _ _ (omega (arith, places-long c.args.rows.now c.args.places.now _ c.requires)))

pub loop-place-preserved : goal.loop-place-preserved
loop-place-preserved g c =
    all-more c.args.rows.now c.loop-place.place c.index-rows-place.result (omega arith) c.index-rows-place.is c.args.cells.now c.loop-place.cells c.step.new.self c.step.result
    c.loop-place.invariant c.step.ensures

use Rattle.std.proofs.Common.{refl}
use Rattle.dex_run.proofs.Common.{IsJobOf}
use Rattle.dex_run.proofs.Openings.{zip-more}
use Rattle.dex_run.proofs.running.jobs_of.Goals as goal

pub loop-seat-preserved : goal.loop-seat-preserved
loop-seat-preserved g c =
    zip-more (IsJobOf c.args.lanes) c.loop-seat.yielded c.loop-seat.jobs.items c.add.new.items.items c.in-Some.seat _ c.loop-seat.invariant
    (record { lanes_are = refl; seat_is = refl }) c.in_ok-add.ensures

use Rattle.dex_world.proofs.Common.{AllZip}
use Rattle.dex_run.proofs.Common.{IsJobOf}
use Rattle.dex_run.proofs.running.jobs_of.Given as goal

abbrev pub invariant-loop-seat : goal.invariant-loop-seat
invariant-loop-seat g l = AllZip (IsJobOf l.fn.lanes) l.yielded l.jobs.items

use Rattle.std.proofs.Common.{List, map, ap, ◌∙◌, sym, subst, arith, All}
use Rattle.dex_world.proofs.Common.{AllZip, AllZip-long, take_at}
use Rattle.dex_run.proofs.Common.{HasRun, IsJobOf, LaneJob}
use Rattle.dex_run.proofs.Jobs.{IsReady, jobs-ran, jobs-ready}
use Rattle.dex_run.proofs.running.run_all.Goals as goal

pub run_jobs-requires-clause-ready : goal.run_jobs-requires-clause-ready
run_jobs-requires-clause-ready g c κs within =
    subst (All (λ (job : LaneJob g.row.R.Denot g.row.P.Denot). IsReady job)) (sym c.deref_mut.ensures.value)
    (jobs-ready c.args.lanes c.args.seats.items c.in_ok-jobs.jobs.items c.requires c.in_ok-jobs.ensures)

pub seats_back-requires : goal.seats_back-requires
seats_back-requires g c = (
  c.in_ok-room.ensures.items,
  omega (
    arith,
    c.in_ok-room.ensures.capacity,
    c.len.ensures,
    AllZip-long (IsJobOf c.args.lanes) c.args.seats.items c.in_ok-jobs.jobs.items c.in_ok-jobs.ensures,
    c.in_ok-jobs.jobs.ok.0,
    c.args.seats.ok.0,
  ),
)

pub returns : goal.returns
returns g c =
    subst (AllZip (HasRun c.args.lanes.bank.now) c.args.seats.items)
    (sym
    (c.seats_back.ensures
    ∙ ap (map (λ (job : LaneJob g.row.R.Denot g.row.P.Denot). job.seat))
    (take_at c.run_jobs.new.jobs _ c.in_ok-jobs.jobs.len (omega (arith, c.run_jobs.ensures.count, c.deref_mut.ensures.len)))))
    (jobs-ran c.args.lanes c.args.seats.items c.in_ok-jobs.jobs.items c.run_jobs.new.jobs c.in_ok-jobs.ensures
    (subst (λ (l : List (LaneJob g.row.R.Denot g.row.P.Denot)). AllZip (λ (one other : LaneJob g.row.R.Denot g.row.P.Denot). HasRun one.lanes.bank.now one.seat other.seat) l c.run_jobs.new.jobs)
    c.deref_mut.ensures.value c.run_jobs.ensures.ran))

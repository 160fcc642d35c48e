use Rattle.std.proofs.Common.{List, arith, sym, subst, take_at}
use Rattle.std.specs.List.{All, AllZip}
use Rattle.dex_batch.specs.Shares.{HasRun, IsReady, ShareState}
use Rattle.dex_batch.proofs.shares.all_run.Goals as goal

pub run_jobs-requires-clause-ready : goal.run_jobs-requires-clause-ready
run_jobs-requires-clause-ready g c κs within = subst (All IsReady) (sym c.deref_mut.ensures.value) c.requires.ready

pub returns : goal.returns
returns g c =
    subst (AllZip HasRun c.args.shares.items) (sym (take_at c.run_jobs.new.jobs _ c.args.shares.len (omega (arith, c.run_jobs.ensures.count, c.deref_mut.ensures.len))))
    (subst (λ (before : List ShareState). AllZip HasRun before c.run_jobs.new.jobs) c.deref_mut.ensures.value c.run_jobs.ensures.ran)

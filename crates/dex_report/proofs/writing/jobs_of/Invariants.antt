use Rattle.std.proofs.Common.{◌≡◌, map}
use Rattle.dex_report.proofs.writing.jobs_of.Given as goal

abbrev pub invariant-loop-parts : goal.invariant-loop-parts
invariant-loop-parts l = map (λ job. job.parts) l.jobs.items ≡ l.yielded

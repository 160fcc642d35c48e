use Rattle.std.proofs.Common.{◌+◌, ◌*◌, length}
use Rattle.dex_lanes.proofs.running.+line.Given as goal

abbrev pub decreases-run_jobs : goal.decreases-run_jobs
decreases-run_jobs g l = 4 * length l.jobs.now

abbrev pub decreases-run_beside : goal.decreases-run_beside
decreases-run_beside g l = 4 * length l.others.now + 2

abbrev pub decreases-run_beside-behind : goal.decreases-run_beside-behind
decreases-run_beside-behind g l = 4 * length l.others.now + 1

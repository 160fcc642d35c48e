use Rattle.std.proofs.Common.{◌≡◌, ◌≤◌, length, map, vec_capacity, vec_len}
use Rattle.dex_run.proofs.running.seats_back.Given as goal

abbrev pub invariant-loop-job : goal.invariant-loop-job
invariant-loop-job g l = record {
  seats : l.seats.items ≡ map (λ job. job.seat) l.yielded;
  so_far : vec_len l.seats ≡ length l.yielded;
  room : vec_len l.fn.jobs ≤ vec_capacity l.seats;
}

-- The jobs of all lanes, and their seats.
use Rattle.std.proofs.Common.{◌≡◌, ℕ, ◌+◌, ◌<◌, List, [], ◌∷◌, get_or, length, map, sym, ap, ◌∙◌, subst, arith, All}
use Rattle.dex_world.proofs.Common.{All-cons, All-head, All-nil, All-tail, AllZip, get_or-map, length-map, length-range_with_len, range_with_len}
use Rattle.dex_run.proofs.Common.{BankState, CanRun, HasRun, IsDone, IsJobOf, LaneJob, Lanes, SeatState}
use Rattle.dex_world.proofs.MappedLists.{All-second}
use Rattle.std.proofs.lemmas.List.FromFn.{get_or-range_with_len}

module _ {R P : Type 0} where
  -- a job may run
  abbrev pub IsReady : LaneJob R P → Type 0
  IsReady job = CanRun job.lanes job.seat

  module _ (lanes : Lanes) where
    -- a job may run where its seat may
    pub jobs-ready : (seats : List SeatState) (jobs : List (LaneJob R P)) → All (CanRun lanes) seats → AllZip (IsJobOf lanes) seats jobs → All IsReady jobs
    jobs-ready [] [] can are = All-nil IsReady
    jobs-ready (seat ∷ seats) (job ∷ jobs) can are =
        All-cons IsReady job jobs
        (subst (λ (l : Lanes). CanRun l job.seat) (sym are.0.lanes_are) (subst (CanRun lanes) (sym are.0.seat_is) (All-head (CanRun lanes) seat seats can)))
        (jobs-ready seats jobs (All-tail (CanRun lanes) seat seats can) are.1)
    jobs-ready _ _ can are = absurd are

    -- the seats of jobs that have run
    pub jobs-ran : (seats : List SeatState) (before after : List (LaneJob R P)) → AllZip (IsJobOf lanes) seats before
        → AllZip (λ (one other : LaneJob R P). HasRun one.lanes.bank.now one.seat other.seat) before after
        → AllZip (HasRun lanes.bank.now) seats (map (λ (job : LaneJob R P). job.seat) after)
    jobs-ran [] [] [] are ran = tt
    jobs-ran (seat ∷ seats) (job ∷ before) (done ∷ after) are ran = (
      subst (λ (l : Lanes). HasRun l.bank.now seat done.seat) are.0.lanes_are (subst (λ (s : SeatState). HasRun job.lanes.bank.now s done.seat) are.0.seat_is ran.0),
      jobs-ran seats before after are.1 ran.1,
    )
    jobs-ran _ _ _ are ran = absurd (assumption)

-- ---- all seats, before and after

pub after-done : (bank : BankState) (before after : List SeatState) → AllZip (HasRun bank) before after → All IsDone after
after-done bank before after ran = All-second (HasRun bank) IsDone (λ seat done has. has.done) before after ran

-- ---- the lanes of seats

-- seats by the numbers of their lanes: each lane is one of them
pub lane-below : (seats : List SeatState) (lanes : ℕ) → map (λ (seat : SeatState). seat.lane) seats ≡ range_with_len 0 lanes → All (λ (seat : SeatState). seat.lane < lanes) seats
lane-below seats lanes are = λ k d within.
    let long : length seats ≡ lanes =
    sym (length-map seats (λ (seat : SeatState). seat.lane)) ∙ ap (λ (l : List ℕ). length l) are ∙ length-range_with_len 0 lanes in
    let here : (get_or seats k d).lane ≡ 0 + k =
    sym (get_or-map (λ (seat : SeatState). seat.lane) seats k d d.lane within)
    ∙ ap (λ (l : List ℕ). get_or l k d.lane) are
    ∙ get_or-range_with_len 0 lanes k d.lane (omega (arith, within, long)) in
    omega (arith, here, within, long)

-- A running market, as its callers see it.
use Rattle.std.specs.Prelude.{ℕ, ◌+◌, ◌*◌, ◌^◌, ◌≤◌}
use Rattle.dex_eager.specs.Eager.{Eager}
use Rattle.dex_eager_market.specs.declared.states.State.{State}
use Rattle.dex_eager_market.specs.States.{IsKept, eager_of}

-- a market that pays at once, and how many steps it made
pub record Running : Type 0 where
  pub market : Eager
  pub steps : ℕ

-- a state as its callers see it
abbrev pub running : State → ℕ → Running
running state steps = record { market = eager_of state; steps = steps }

-- each step moves little, and there are few
pub record IsRunning (state : State) (steps : ℕ) : Type 0 where
  pub kept : IsKept ((steps + 1) * 2 ^ 84) state
  pub few : steps ≤ 2 ^ 32

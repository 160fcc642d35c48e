use Rattle.std.proofs.Common.{ℕ, ◌+◌, ◌*◌, ◌^◌, ◌<◌, ap, arith}
use Rattle.dex_eager_market.specs.declared.states.State.{State}
use Rattle.dex_eager_market.specs.Running.{IsRunning, Running}
use Rattle.dex_eager_market.specs.States.{IsKept}
use Rattle.dex_eager_market.proofs.Trades.{kept-more}
use Rattle.dex_eager_market.proofs.market.EagerMarket.step.Goals as goal
use Rattle.dex_eager_market.proofs.market.EagerMarket.step.Goals.{in-Ok, in_default}

-- one step moves little
stepped : (steps : ℕ) (before after : State) → steps < 2 ^ 32 → IsRunning before steps → ((bound : ℕ) → IsKept bound before → IsKept (bound + 2 ^ 82) after)
    → IsRunning after (steps + 1)
stepped steps before after few running more = record {
  kept = kept-more ((steps + 1) * 2 ^ 84 + 2 ^ 82) ((steps + 1 + 1) * 2 ^ 84) after (omega arith) (more ((steps + 1) * 2 ^ 84) running.kept);
  few = omega (arith, few);
}

pub invariant_of-self : goal.invariant_of-self
invariant_of-self c =
    let steps : ℕ = c.self.inside.steps in
    let few : steps < 2 ^ 32 = omega (arith, ap (λ (r : Running). r.steps) c.self.view_is, c.requires) in
    elim c.match-decode.branch [
      | in-Ok w ↦ rw w.self-inside-is (stepped steps c.self.inside.state w.act.new.state few c.self.invariant w.act.ensures.kept)
      | in_default w ↦
          rw w.self-inside-is
          (stepped steps c.self.inside.state c.self.inside.state few c.self.invariant (λ bound kept. kept-more bound (bound + 2 ^ 82) c.self.inside.state (omega arith) kept))
    ]

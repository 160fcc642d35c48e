use Rattle.std.proofs.Common.{drop, subst}
use Rattle.dex_desk.specs.Calls.{DeskState, HaveHeard}
use Rattle.dex_desk.proofs.list_desk.ListDesk.into_calls.Goals as goal

pub returns-clause-heard : goal.returns-clause-heard
returns-clause-heard c =
    let inside = c.self.inside in
    subst (λ (s : DeskState). HaveHeard s.most s.turns s.input) c.self.view_is (drop inside.at inside.input.items, c.self.invariant.1)

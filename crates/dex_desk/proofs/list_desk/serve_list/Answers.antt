use Rattle.std.proofs.Common.{List, ap, drop, max, subst, sym, ℕ}
use Rattle.dex_io.specs.Faults.{Rose}
use Rattle.dex_desk.specs.Calls.{DeskState, HaveHeard}
use Rattle.dex_desk.specs.Talks.{Talks, first}
use Rattle.dex_desk.specs.Turns.{Turn}
use Rattle.dex_desk.proofs.CallLaws.{told-behind}
use Rattle.dex_desk.proofs.list_desk.serve_list.Goals as goal

pub returns-clause-session : goal.returns-clause-session
returns-clause-session c =
    let served = c.serve-ended.ensures.talk in
    let same = told-behind c.new-desk.result c.serve-ended.new.desk c.args.input.items (max c.args.step 1) served.1.0 c.new-desk.ensures served.1.1 in
    (served.0, subst (λ (l : List Turn). Talks first l served.0) (sym same.0) served.1.2, served.2)

pub returns-clause-heard : goal.returns-clause-heard
returns-clause-heard c =
    let served = c.serve-ended.ensures.talk in
    let desk : DeskState = c.serve-ended.new.desk in
    let same = told-behind c.new-desk.result desk c.args.input.items (max c.args.step 1) served.1.0 c.new-desk.ensures served.1.1 in
    let heard : HaveHeard desk.most desk.turns desk.input =
    subst (λ (s : DeskState). HaveHeard s.most s.turns s.input) c.desk.view_is (drop c.desk.inside.at c.desk.inside.input.items, c.desk.invariant.1) in
    subst (λ (l : List ℕ). HaveHeard (max c.args.step 1) desk.turns l) same.2 (subst (λ (n : ℕ). HaveHeard n desk.turns desk.input) same.1 heard)

pub returns-clause-deaf : goal.returns-clause-deaf
returns-clause-deaf c = λ is.
    subst (λ (n : ℕ). Rose n c.serve-ended.new.desk.deaf) (ap (λ (s : DeskState). s.deaf) c.new-desk.ensures) (c.serve-ended.ensures.deaf is)

pub returns-clause-mute : goal.returns-clause-mute
returns-clause-mute c = λ is.
    subst (λ (n : ℕ). Rose n c.serve-ended.new.desk.mute) (ap (λ (s : DeskState). s.mute) c.new-desk.ensures) (c.serve-ended.ensures.mute is)

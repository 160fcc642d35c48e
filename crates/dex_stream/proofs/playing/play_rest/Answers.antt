use Rattle.std.proofs.Common.{◌∙◌, ◌≤◌, ◌++◌, ℕ, IfSome, List, Option, ap, map, subst, sym}
use Rattle.std.specs.List.{AllPairs}
use Rattle.dex_types.specs.Rows.{PlainRow, row_of}
use Rattle.dex_state.specs.Accepted.{AreAccepted}
use Rattle.dex_script_types.specs.PlainScript.{PlainScript}
use Rattle.dex_stream.specs.declared.parts.Acted.{Acted}
use Rattle.dex_stream.specs.Heard.{HasPlayed}
use Rattle.dex_stream.specs.Parts.{HasActedNext, IsBehind, IsBetween, IsHeardSoFar}
use Rattle.dex_stream.proofs.BetweenLaws.{all-heard, first-heard, heard-next}
use Rattle.dex_stream.proofs.playing.play_rest.Given.{Over}
use Rattle.dex_stream.proofs.playing.play_rest.Goals.{In-Some}
use Rattle.dex_stream.proofs.playing.play_rest.Goals as goal

-- what was heard, before the next part and what is left behind it
so-far : (g : Over) (c : In-Some g) (text : List ℕ) (script : PlainScript) → HasPlayed g.L.Listener.heard script c.args.first
    → IsBehind c.args.limits.now text script c.args.behind
    → IsHeardSoFar g.L.Listener.heard c.args.limits.now text c.parts.listener c.parts.playing (c.cut-left.new.self ++ c.cut-left.result)
so-far g c text script plays is =
    subst (IsHeardSoFar g.L.Listener.heard c.args.limits.now text c.parts.listener c.parts.playing) c.cut-left.ensures (c.parts.invariant text script plays is)

pub parts-init : goal.parts-init
parts-init g c = λ text script plays is. first-heard c.args.limits.now text g.L.Listener.heard script c.args.first c.args.behind plays is

pub returns-then-branch : goal.returns-then-branch
returns-then-branch g c = λ text script plays is.
    all-heard c.args.limits.now text g.L.Listener.heard c.parts.listener c.parts.playing c.parts.left (c.in_ok-is_over.ensures c.if-branch.true)
    (c.parts.invariant text script plays is)

pub size_of_part-requires : goal.size_of_part-requires
size_of_part-requires g c =
    let between = (c.parts.invariant c.requires.0 c.requires.1 c.requires.2 c.requires.3).between in
    let limits = between.before.script.limits in
    (limits, subst (AreAccepted limits) between.acted.leaves between.acted.run.accepted)

pub act_part-requires : goal.act_part-requires
act_part-requires g c = (
  c.requires.0,
  c.cut-left.result,
  subst (IsBetween c.args.limits.now c.requires.0 c.parts.playing) c.cut-left.ensures
      (c.parts.invariant c.requires.0 c.requires.1 c.requires.2 c.requires.3).between,
)

-- what the next part left
next : (g : Over) (c : In-Some g) (text : List ℕ) (script : PlainScript) (plays : HasPlayed g.L.Listener.heard script c.args.first)
    (is : IsBehind c.args.limits.now text script c.args.behind)
    → HasActedNext c.args.limits.now text c.parts.playing (c.cut-left.new.self ++ c.cut-left.result) (so-far g c text script plays is).between c.in-Some.acted c.cut-left.result
next g c text script plays is =
    let between = (so-far g c text script plays is).between in
    subst (λ (found : Option Acted). IfSome found (λ (acted : Acted).
    HasActedNext c.args.limits.now text c.parts.playing (c.cut-left.new.self ++ c.cut-left.result) between acted c.cut-left.result)) c.in-Some.is
    (c.in_ok-acted.ensures text c.cut-left.result between)

pub hear-requires : goal.hear-requires
hear-requires g c =
    let next = next g (goal.at.hear-requires g c).In-Some c.requires.0 c.requires.1 c.requires.2 c.requires.3 in
    record {
      rising =
          subst (AllPairs (λ (one other : PlainRow). one.number ≤ other.number)) (sym (ap (map row_of) c.deref.ensures.value ∙ next.rows_are))
          next.is_next.is_script.rows.rising;
    }

pub parts-preserved : goal.parts-preserved
parts-preserved g c = λ text script plays is.
    let at = (goal.at.parts-preserved g c).In-Some in
    let so = so-far g at text script plays is in
    let between = so.between in
    let next = next g at text script plays is in
    heard-next c.args.limits.now text g.L.Listener.heard c.parts.playing (c.cut-left.new.self ++ c.cut-left.result) c.cut-left.result between c.in-Some.acted
    c.hear.new.self next
    (c.in_ok-hear.ensures between.before.script next.part next.now.before.script between.outcome next.outcome next.is_next
    (ap (map row_of) c.deref.ensures.value ∙ next.rows_are) next.markets next.wallets so.hears)

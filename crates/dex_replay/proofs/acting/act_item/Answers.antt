use Rattle.dex_world.proofs.Common.{row_of}
use Rattle.std.proofs.Common.{option_copied, option_map}
use Rattle.dex_replay.proofs.ActedTo.{IsAlone, alone-none, alone-some, can-legs, can-row, legs-done, legs-stand, plain-behind, row-done, row-stands}
use Rattle.dex_replay.proofs.acting.act_item.Goals as goal
use Rattle.dex_replay.proofs.acting.act_item.Goals.{in-Some+else-second-row, in_default}

pub step_two-requires-clause-rows : goal.step_two-requires-clause-rows
step_two-requires-clause-rows c = can-legs c.requires.next.1 c.requires.next.4 (plain-behind c.in-Some.is) c.if-second-row.true

pub step_two-requires-clause-first : goal.step_two-requires-clause-first
step_two-requires-clause-first c = (legs-stand c.requires.next.1 c.requires.next.4 (plain-behind c.in-Some.is) c.if-second-row.true).0

pub step_two-requires-clause-second : goal.step_two-requires-clause-second
step_two-requires-clause-second c = (legs-stand c.requires.next.1 c.requires.next.4 (plain-behind c.in-Some.is) c.if-second-row.true).1

pub returns-then-second-row : goal.returns-then-second-row
returns-then-second-row c = record {
  acted = λ script others places is next.
      legs-done is next (plain-behind c.in-Some.is) c.if-second-row.true c.step_two.ensures.kept c.step_two.ensures.cells c.step_two.ensures.acted;
}

pub step-requires-clause-row : goal.step-requires-clause-row
step-requires-clause-row c =
    let alone : IsAlone (row_of c.args.row.now) (option_map row_of (option_copied c.args.behind)) = elim c.match-behind.branch [
      | in-Some+else-second-row w ↦ alone-some c.args.row.now w.in-Some.is w.if-second-row.false
      | in_default w ↦ alone-none c.args.row.now w.in_default.not-Some
    ] in
    can-row c.requires.next.1 c.requires.next.4 alone

pub step-requires-clause-placed : goal.step-requires-clause-placed
step-requires-clause-placed c = row-stands c.requires.next.4

pub returns : goal.returns
returns c =
    let alone : IsAlone (row_of c.args.row.now) (option_map row_of (option_copied c.args.behind)) = elim c.match-behind.branch [
      | in-Some+else-second-row w ↦ alone-some c.args.row.now w.in-Some.is w.if-second-row.false
      | in_default w ↦ alone-none c.args.row.now w.in_default.not-Some
    ] in
    record {
      acted = λ script others places is next. row-done is next alone c.step.ensures.kept c.step.ensures.cells c.step.ensures.acted;
    }

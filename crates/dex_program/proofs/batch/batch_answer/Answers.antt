use Rattle.std.proofs.Common.{◌≡◌, ℕ, ap, refl, subst, true}
use Rattle.std.proofs.lemmas.Result.{IfOk-weaker}
use Rattle.dex_types.specs.declared.limits.TheConstants.{STANDARD}
use Rattle.dex_state.specs.Outcomes.{PlainOutcome, outcome_of}
use Rattle.dex_report.specs.Report.{report_text}
use Rattle.dex_report.specs.Telling.{FitOutcome}
use Rattle.dex_answers.proofs.InFront.{run-told}
use Rattle.dex_script_types.specs.PlainScript.{PlainScript}
use Rattle.dex_script_types.specs.Facts.{IsScript}
use Rattle.dex_answers.specs.Answers.{rows_told}
use Rattle.dex_answers.proofs.PairLaws.{played}
use Rattle.dex_commands.proofs.LaneAnswerLaws.{no-batch}
use Rattle.dex_commands.specs.LaneAnswers.{AnswersBatch}
use Rattle.dex_answers.specs.Told.{text_of}
use Rattle.dex_answers.proofs.TextLaws.{says-more}
use Rattle.dex_answers.specs.declared.status.Status.TheVariants as status
use Rattle.dex_program.proofs.batch.batch_answer.Goals as goal

pub run_batch_with_rows-requires-clause-rows : goal.run_batch_with_rows-requires-clause-rows
run_batch_with_rows-requires-clause-rows g c = λ κs lives. c.in-Ok.ensures.apart refl

pub returns-in_ok-outcome-in-Ok : goal.returns-in_ok-outcome-in-Ok
returns-in_ok-outcome-in-Ok g c =
    let script : PlainScript = c.in-Ok.script in
    let outcome : PlainOutcome = outcome_of c.in_ok-outcome-in-Ok.outcome in
    let left = c.in_ok-outcome-in-Ok.ensures in
    let is : IsScript script = subst IsScript c.script.view_is c.script.invariant.0 in
    let counted : c.items-items.result ≡ rows_told script = c.items-items.ensures in
    says-more _ (AnswersBatch c.args.bytes.now) status.Ok _ (FitOutcome outcome) c.report_of.ensures.text c.report_of.ensures.fits
    (λ fits. (
      script,
      outcome,
      c.in-Ok.ensures.told,
      played script outcome is left.outcome left.run (c.without_swaps_rows_act_one_by_one.ensures.replay script outcome),
      run-told script outcome left.run fits,
      ap (λ (n : ℕ). report_text outcome n) counted,
    ))

pub returns-in-Err : goal.returns-in-Err
returns-in-Err g c =
    IfOk-weaker c.no_script.result _ _ (λ told why. no-batch c.args.bytes.now told.status (text_of told) why) (c.no_script.ensures STANDARD true c.args.bytes.now c.in-Err.ensures.told)

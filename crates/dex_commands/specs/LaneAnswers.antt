-- What `run` and `batch` answer, by the status: the text, and what it says of the bytes that were read.
use Rattle.std.specs.Prelude.{ℕ, ◌≡◌, true, false, List}
use Rattle.dex_words.specs.declared.command.Command.{Command}
use Rattle.dex_words.specs.declared.command.Command.TheVariants.{Batch, Run}
use Rattle.dex_script_types.specs.PlainScript.{PlainScript}
use Rattle.dex_script_types.specs.Facts.{HasNoSwap}
use Rattle.dex_script.specs.Scripts.{Reads}
use Rattle.dex_types.specs.declared.limits.Limits.{Limits}
use Rattle.dex_types.specs.declared.limits.TheConstants.{STANDARD}
use Rattle.dex_state.specs.Outcomes.{PlainOutcome}
use Rattle.dex_report.specs.Report.{report_text}
use Rattle.dex_report.specs.Telling.{IsToldOutcome}
use Rattle.dex_replay.specs.Runs.{IsOneOrder, IsOneOrderOfRows, IsRunOf}
use Rattle.dex_answers.specs.Answers.{AnswersWithin, IsNoScript, Reported, rows_told}
use Rattle.dex_answers.specs.Paired.{ArePaired}
use Rattle.dex_answers.specs.declared.status.Status.{Status}
use Rattle.dex_answers.specs.declared.status.Status.TheVariants as status

-- this is what is left when the lanes of a script have run side by side: it is lawful, its markets are sound and its
-- mints conserved; of each swap both legs took, or neither; it is also what the script's items leave one after the
-- other in some order that keeps the order of each lane; and where there is no swap, what its rows leave, each by
-- itself, in such an order. Its values fit and its movements stand from the front, so no other such outcome has its
-- report
pub record HaveRun (script : PlainScript) (outcome : PlainOutcome) : Type 0 where
  pub run : IsRunOf script outcome
  pub paired : ArePaired script outcome
  pub order : IsOneOrder script outcome
  pub rows : HasNoSwap script.rows → IsOneOrderOfRows script outcome
  pub told : IsToldOutcome outcome

-- the bytes are a script, this is what is left when its lanes have run, and the text reports it
abbrev pub Ran : List ℕ → List ℕ → Type 0
Ran bytes text =
    (script : PlainScript) × (outcome : PlainOutcome) × Reads false bytes script × HaveRun script outcome
    × (text ≡ report_text outcome (rows_told script))

-- what `run` answers to bytes: the status and the text
abbrev pub AnswersRun : List ℕ → Status → List ℕ → Type 0
AnswersRun bytes status.Ok text = Ran bytes text
AnswersRun bytes stood text = IsNoScript STANDARD false bytes stood text

-- what `batch` answers to bytes: what `replay` does, of a script for batches, which has no swap
abbrev pub AnswersBatch : List ℕ → Status → List ℕ → Type 0
AnswersBatch bytes status.Ok text = Reported STANDARD true bytes text
AnswersBatch bytes stood text = IsNoScript STANDARD true bytes stood text

-- what each command answers to bytes, on one thread within these limits, or on several within the program's
abbrev pub AnswersAll : Limits → Command → List ℕ → Status → List ℕ → Type 0
AnswersAll limits Run bytes stood text = AnswersRun bytes stood text
AnswersAll limits (Batch workers) bytes stood text = AnswersBatch bytes stood text
AnswersAll limits command bytes stood text = AnswersWithin limits command bytes stood text

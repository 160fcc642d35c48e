-- What holds wherever the lanes of a script were run.
use Rattle.std.specs.Prelude.{◌≡◌, false, List, ℕ, Option, Some}
use Rattle.std.specs.Io.KnownBytes.{append_known}
use Rattle.dex_words.specs.declared.command.Command.{Command}
use Rattle.dex_words.specs.declared.command.Command.TheVariants.{Run}
use Rattle.dex_answers.specs.declared.status.Status.{Status}
use Rattle.dex_answers.specs.declared.status.Status.TheVariants as status
use Rattle.dex_answers.specs.Answers.{rows_told}
use Rattle.dex_answers.specs.Paired.{ArePaired}
use Rattle.dex_commands.specs.Ending.{Input, Output}
use Rattle.dex_replay.specs.Runs.{IsOneOrder, IsOneOrderOfRows, IsRunOf}
use Rattle.dex_state.specs.Outcomes.{PlainOutcome}
use Rattle.dex_report.specs.Report.{report_text}
use Rattle.dex_report.specs.Telling.{IsToldOutcome}
use Rattle.dex_script_types.specs.PlainScript.{PlainScript}
use Rattle.dex_script_types.specs.Facts.{HasNoSwap}
use Rattle.dex_script.specs.Scripts.{Reads}

-- the bytes are those of a script, and the sink took the report of an outcome that is lawful whichever way the lanes
-- acted, with sound markets and conserved mints; of each swap both legs took, or neither. Its values fit and its
-- movements stand from the front, so no other such outcome has this report
pub record OneLegalHistory (bytes : List ℕ) (o : Output) : Type 0 where
  pub script : PlainScript
  pub outcome : PlainOutcome
  pub reads : Reads false bytes script
  pub run : IsRunOf script outcome
  pub paired : ArePaired script outcome
  pub told : IsToldOutcome outcome
  pub taken : o.taken_after ≡ append_known o.taken (report_text outcome (rows_told script))

-- the bytes are those of a script, and the sink took the report of an outcome that is lawful likewise, and that is also
-- what all items leave one after the other, in some order that keeps the order of each lane; and where there is no
-- swap, so do all rows, each by itself. No other such outcome has this report
pub record OneOrder (bytes : List ℕ) (o : Output) : Type 0 where
  pub script : PlainScript
  pub outcome : PlainOutcome
  pub reads : Reads false bytes script
  pub run : IsRunOf script outcome
  pub order : IsOneOrder script outcome
  pub rows : HasNoSwap script.rows → IsOneOrderOfRows script outcome
  pub told : IsToldOutcome outcome
  pub taken : o.taken_after ≡ append_known o.taken (report_text outcome (rows_told script))

-- this holds of the bytes wherever lanes ran and the status is 0, if the source tells its bytes
abbrev pub WhereRun : (List ℕ → Output → Type 0) → Option Command → Input → Output → Status → Type 0
WhereRun Holds asked i o ended =
    asked ≡ Some Run → ended ≡ status.Ok → (bytes : List ℕ) → i.left ≡ Some bytes → Holds bytes o

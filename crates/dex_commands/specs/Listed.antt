-- What holds wherever the rows of a script acted in their listed order.
use Rattle.std.specs.Prelude.{◌≡◌, Bool, true, false, List, ℕ, Option, Some}
use Rattle.std.specs.Io.KnownBytes.{append_known}
use Rattle.dex_words.specs.declared.command.Command.{Command}
use Rattle.dex_words.specs.declared.command.Command.TheVariants.{Batch, Replay}
use Rattle.dex_answers.specs.declared.status.Status.{Status}
use Rattle.dex_answers.specs.declared.status.Status.TheVariants as status
use Rattle.dex_answers.specs.Answers.{rows_told}
use Rattle.dex_answers.specs.Paired.{ArePaired}
use Rattle.dex_replay.specs.Replays.{IsReplayOf}
use Rattle.dex_replay.specs.Runs.{IsRunOf}
use Rattle.dex_state.specs.Outcomes.{PlainOutcome}
use Rattle.dex_report.specs.Report.{report_text}
use Rattle.dex_report.specs.Telling.{IsToldOutcome}
use Rattle.dex_script_types.specs.PlainScript.{PlainScript}
use Rattle.dex_script.specs.Scripts.{Reads}
use Rattle.dex_commands.specs.Ending.{Input, Output}

-- the bytes are those of a script (one for batches, where so told), and the sink took the report of what is left when
-- all its items have acted in their listed order; it is lawful, with sound markets and conserved mints, and of each
-- swap both legs took, or neither. No other such outcome has this report
pub record ListedOrder (batch : Bool) (bytes : List ℕ) (o : Output) : Type 0 where
  pub script : PlainScript
  pub outcome : PlainOutcome
  pub reads : Reads batch bytes script
  pub replay : IsReplayOf script outcome
  pub run : IsRunOf script outcome
  pub paired : ArePaired script outcome
  pub told : IsToldOutcome outcome
  pub taken : o.taken_after ≡ append_known o.taken (report_text outcome (rows_told script))

-- the words are `replay`; or `batch` with a number, whichever it is
abbrev pub IsListed : Bool → Option Command → Type 0
IsListed false (Some Replay) = Unit {0}
IsListed true (Some (Batch workers)) = Unit {0}
IsListed batch asked = ⊥

-- this holds of the bytes wherever rows acted in listed order and the status is 0, if the source tells its bytes
abbrev pub WhereListed : (Bool → List ℕ → Output → Type 0) → Option Command → Input → Output → Status → Type 0
WhereListed Holds asked i o ended =
    (batch : Bool) → IsListed batch asked → ended ≡ status.Ok → (bytes : List ℕ) → i.left ≡ Some bytes → Holds batch bytes o

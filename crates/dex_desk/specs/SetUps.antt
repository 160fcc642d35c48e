-- What a set-up opens.
use Rattle.std.specs.Prelude.{◌≡◌, ℕ, ℤ, pos, false, if◌then◌else◌, List, [], ◌∷◌, bytes_eq, codes, Result, Ok}
use Rattle.dex_types.specs.declared.limits.TheConstants.{WIDE}
use Rattle.dex_answers.specs.Answers.{IsNoScript}
use Rattle.dex_answers.specs.Told.{text_of}
use Rattle.dex_replay.specs.Replays.{IsReplayOf}
use Rattle.dex_replay.specs.Runs.{IsRunOf}
use Rattle.dex_state.specs.Outcomes.{PlainOutcome}
use Rattle.dex_rows.specs.Records.{rows_of}
use Rattle.dex_script.specs.Pieces.{number_after}
use Rattle.dex_script.specs.Scripts.{ReadsWithin}
use Rattle.dex_script_types.specs.PlainScript.{PlainScript}
use Rattle.dex_statement.specs.declared.faults.FaultKind.{FaultKind}
use Rattle.dex_statement.specs.declared.statement.Statement.{Statement}
use Rattle.dex_statement.specs.declared.statement.Statement.TheVariants as statement
use Rattle.dex_statement.specs.Statements.{statement_of}
use Rattle.dex_statement.specs.Words.{Fields, field_at}
use Rattle.dex_desk.specs.Blocks.{PlainBlock, no_rows_of}
use Rattle.dex_desk.specs.declared.set_up.Opened.{Opened}
use Rattle.dex_desk.specs.declared.set_up.Opened.TheVariants as opened

-- the clock that a row states, or the one before
abbrev pub time_stated : ℤ → Result Statement FaultKind → ℤ
time_stated before (Ok (statement.Clock now)) = now
time_stated before _ = before

-- the clock behind a row
abbrev pub clock_behind : ℤ → Fields → ℤ
clock_behind before row =
    if bytes_eq (field_at row 0) (codes "clock") then time_stated before (statement_of row) else before

-- the clock behind rows
abbrev pub clock_after : ℤ → List Fields → ℤ
clock_after clock [] = clock
clock_after clock (row ∷ rows) = clock_after (clock_behind clock row) rows

-- the text is a script, whose rows have acted; the next row has the number and the clock of one behind them; and none
-- was accepted yet
pub record IsOpened (text : List ℕ) (block : PlainBlock) : Type 0 where
  pub script : PlainScript
  pub reads : ReadsWithin WIDE false text script
  pub outcome : PlainOutcome
  pub replay : IsReplayOf script outcome
  pub run : IsRunOf script outcome
  pub fresh :
      block ≡ record {
        draft = no_rows_of outcome.accounts script.program (clock_after (pos 0) (rows_of text));
        number = number_after 1 (rows_of text);
      }

-- a desk is open over what the text's script leaves, or the text is none
abbrev pub TellsOpened : Opened → List ℕ → Type 0
TellsOpened (opened.Desk block) text = IsOpened text block
TellsOpened (opened.Refused told) text = IsNoScript WIDE false text told.status (text_of told)

-- Texts of which the first rows are read.
use Rattle.std.specs.Prelude.{◌≡◌, ℕ, Bool, IfSome, List, [], Option, Some, None, Result, Ok, Err}
use Rattle.dex_types.specs.declared.limits.Limits.{Limits}
use Rattle.dex_statement.specs.Words.{Fields}
use Rattle.dex_script_types.specs.Facts.{IsStart}
use Rattle.dex_script.specs.declared.fault.ScriptError.{ScriptError}
use Rattle.dex_script.specs.declared.reading.Begun.{Begun}
use Rattle.dex_script.specs.Drafts.{IsGood, PlainDraft}
use Rattle.dex_script.specs.Pieces.{IsPartway, IsUnderway}
use Rattle.dex_script.specs.Scripts.{draft_after}
use Rattle.dex_script.specs.Telling.{TellsDraft, TellsError, TellsText}

-- this is the script so far, and these rows are left, the first of them of this number: what they leave after it, the
-- text says
pub record IsBegun (limits : Limits) (batch : Bool) (text : List ℕ)
    (draft : PlainDraft) (number : ℕ) (left : List Fields) : Type 0 where
  pub start : IsStart limits draft.script.start
  pub within : draft.script.limits ≡ limits
  pub good : IsGood number draft
  pub tells : (answer : Result PlainDraft ScriptError) → TellsDraft answer (draft_after draft number left)
      → TellsText limits answer batch text

-- the rows that are left, if there are any
abbrev pub left_in : Option (List Fields) → List Fields
left_in None = []
left_in (Some rows) = rows

-- so it is of what was read, or the error says why the text is no script
abbrev pub TellsBegun : Limits → Result Begun ScriptError → Bool → List ℕ → Type 0
TellsBegun limits (Ok read) batch text = IsBegun limits batch text read.reader read.number (left_in read.rows)
TellsBegun limits (Err error) batch text = TellsError limits error batch text

-- all rows are read, or neither setup rows nor one that chooses the program may follow
abbrev pub IsDoneOrUnderway : Begun → Type 0
IsDoneOrUnderway read = IfSome read.rows (λ rows. IsUnderway read.reader)

-- the first of these rows, numbered from this number on, are read after this script so far
abbrev pub HasReadSome : PlainDraft → ℕ → List Fields → Begun → Type 0
HasReadSome draft number rows read = IsPartway draft number rows read.reader read.number (left_in read.rows)

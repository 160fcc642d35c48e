-- How a call ends that writes what a command answers into memory of its caller.
use Rattle.std.specs.Prelude.{ℕ, ◌≡◌, ◌≤◌, ◌<◌, ◌++◌, ◌⊎◌, List, Result, Ok, Err, drop, length}
use Rattle.dex_words.specs.declared.command.PlainCommand.{PlainCommand}
use Rattle.dex_words.specs.Spelling.{IsWithin}
use Rattle.dex_words.specs.Threads.{of_plain}
use Rattle.dex_types.specs.declared.limits.Limits.{Limits}
use Rattle.dex_types.specs.declared.limits.TheConstants.{STANDARD}
use Rattle.dex_answers.specs.Answers.{AnswersWithin}
use Rattle.dex_answers.specs.ExitCodes.{exit_code}
use Rattle.dex_types.specs.declared.terms.NoMemory.{NoMemory}
use Rattle.dex_answers.specs.Told.{text_of}
use Rattle.dex_answers.specs.declared.told.StatusText.{StatusText}
use Rattle.dex_answers.specs.declared.status.Status.{Status}
use Rattle.dex_answers.specs.declared.status.Status.TheVariants as status

-- a text was written into a room: where it fits, to its front, and what stood behind is as it was; else all is as it
-- was
pub record IsWritten (text before after : List ℕ) : Type 0 where
  pub fits : length text ≤ length before → after ≡ text ++ drop (length text) before
  pub large : length before < length text → after ≡ before

-- what a call has done: the room before and after it, the number that it gave, and the size that it told
pub record Done : Type 0 where
  pub before : List ℕ
  pub after : List ℕ
  pub code : ℕ
  pub size : ℕ

-- what a call has done, by its parts
abbrev pub done : List ℕ → List ℕ → ℕ → ℕ → Done
done before after code size = record { before = before; after = after; code = code; size = size }

-- a text of this status was told: the call gave the status' number, told the text's length, and wrote it
pub record HasTold (stood : Status) (text : List ℕ) (call : Done) : Type 0 where
  pub code : call.code ≡ exit_code stood
  pub size : call.size ≡ length text
  pub written : IsWritten text call.before call.after

-- a status and a text of which this holds, and the call told them
abbrev pub HasAnswered : (Status → List ℕ → Type 0) → Done → Type 0
HasAnswered answers call = (stood : Status) × (text : List ℕ) × answers stood text × HasTold stood text call

-- the call gave this status' number and no text: it told the length 0, and the room is as it was
pub record HasStopped (stood : Status) (call : Done) : Type 0 where
  pub code : call.code ≡ exit_code stood
  pub size : call.size ≡ 0
  pub same : call.after ≡ call.before

-- how a call of a command within these limits ends: with its answer; for want of memory; or since its numbers are not
-- within theirs
abbrev pub EndsWithin : Limits → PlainCommand → List ℕ → Done → Type 0
EndsWithin limits command bytes call =
    (IsWithin (of_plain command) × HasAnswered (AnswersWithin limits (of_plain command) bytes) call)
    ⊎ HasStopped status.NoMemory call
    ⊎ (¬ (IsWithin (of_plain command)) × HasStopped status.Usage call)

-- within the program's limits
abbrev pub Ends : PlainCommand → List ℕ → Done → Type 0
Ends command bytes call = EndsWithin STANDARD command bytes call

-- how a call ends that asks for no command: with an answer of which this holds, or for want of memory
abbrev pub EndsWith : (Status → List ℕ → Type 0) → Done → Type 0
EndsWith answers call = HasAnswered answers call ⊎ HasStopped status.NoMemory call

-- a text, or want of memory, and how the call ended that was to tell it
abbrev pub Tells : Result StatusText NoMemory → Done → Type 0
Tells (Ok told) call = HasTold told.status (text_of told) call ⊎ HasStopped status.NoMemory call
Tells (Err error) call = HasStopped status.NoMemory call

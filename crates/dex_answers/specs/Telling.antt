-- What the answers of calls tell, without their buffers.
use Rattle.std.specs.Prelude.{ℕ, ◌≡◌, List}
use Rattle.dex_types.specs.Accounts.{accounts_of}
use Rattle.dex_types.specs.declared.limits.Limits.{Limits}
use Rattle.dex_state.specs.Accepted.{AreAccepted}
use Rattle.dex_answers.specs.declared.clean.Checked.{Checked}
use Rattle.dex_answers.specs.declared.clean.Checked.TheVariants as checked
use Rattle.dex_answers.specs.declared.status.Status.{Status}
use Rattle.dex_answers.specs.declared.told.StatusText.{StatusText}
use Rattle.dex_answers.specs.Told.{text_of}
use Rattle.dex_answers.specs.Answers.{IsClean, IsNotClean}

-- the text of a status
pub record IsText (told : StatusText) (stood : Status) (bytes : List ℕ) : Type 0 where
  pub status : told.status ≡ stood
  pub text : text_of told ≡ bytes

-- the bytes are the dump of these accounts, or the text says why they are none
abbrev pub TellsChecked : Limits → Checked → List ℕ → Type 0
TellsChecked limits (checked.Clean accounts) bytes = IsClean limits bytes (accounts_of accounts) × AreAccepted limits (accounts_of accounts)
TellsChecked limits (checked.Refused told) bytes = IsNotClean limits bytes told.status (text_of told)

-- The words that a process begins with, and how it ends.
use Rattle.std.specs.Prelude.{ℕ, ◌≡◌, List, [], Vec, Result, Ok, Err, Option, Some, None, String, drop, map, string_bytes}
use Rattle.std.specs.declared.alloc.Global.{Global}
use Rattle.dex_types.specs.declared.limits.Limits.{Limits}
use Rattle.dex_words.specs.declared.command.Command.{Command}
use Rattle.dex_words.specs.declared.command.WordsError.{WordsError}
use Rattle.dex_words.specs.declared.command.WordsError.TheVariants.{Usage, NoMemory}
use Rattle.dex_answers.specs.ExitCodes.{exit_code}
use Rattle.dex_answers.specs.declared.status.Status.{Status}
use Rattle.dex_answers.specs.declared.status.Status.TheVariants as status
use Rattle.dex_commands.specs.Ending.{EndsWithin, Input, Output}

-- the words that a program runs on: those of its process behind the first, or none where these are no text; where there
-- was no memory for them it does not run
abbrev pub words_given : Result (Vec (String Global) Global) WordsError → Option (List (List ℕ))
words_given (Ok words) = Some (map (λ word. string_bytes word) (drop 1 words.items))
words_given (Err Usage) = Some []
words_given (Err NoMemory) = None

-- how a process ends whose program runs on these words within these limits, and takes words for this command: with the
-- number of the status with which it ran; or it did not run, and nothing was read or written
abbrev pub EndsProcess : Limits → (List (List ℕ) → Option Command) → Option (List (List ℕ)) → Input → Output → ℕ
    → Type 0
EndsProcess limits asked_by (Some words) i o number =
    (ended : Status) × (number ≡ exit_code ended) × EndsWithin limits (asked_by words) i o ended
EndsProcess limits asked_by None i o number =
    (number ≡ exit_code status.NoMemory) × (i.rest ≡ i.left) × (o.taken_after ≡ o.taken)

-- The lists of words that are commands.
use Rattle.std.specs.Prelude.{ℕ, ◌^◌, ◌==◌, Bool, false, ◌&&◌, nat_le, if◌then◌else◌, List, [], ◌∷◌, bytes_eq, codes, Option, Some, None, option_and_then, option_map}
use Rattle.dex_rows.specs.Numbers.{number_of}
use Rattle.dex_words.specs.declared.command.Command.{Command}
use Rattle.dex_words.specs.declared.command.Command.TheVariants.{Replay, Run, Dump, Audit, Worth, Make, Bulk, Migrate, Batch}

-- a number that is 1 at least and at most the greatest
abbrev pub within : ℕ → ℕ → Option ℕ
within most number = if nat_le 1 number && nat_le number most then Some number else None

-- the number from 1 to the greatest that a word writes in decimal, with no sign and no zeros in front
abbrev pub count_of : ℕ → List ℕ → Option ℕ
count_of most word = option_and_then (within most) (number_of (2 ^ 32) word)

-- a command of two numbers, where both are there
abbrev pub with_numbers : (ℕ → ℕ → Command) → Option ℕ → Option ℕ → Option Command
with_numbers command (Some first) (Some second) = Some (command first second)
with_numbers command _ _ = None

-- the command that is a name alone
abbrev pub plain_command : List ℕ → Option Command
plain_command name =
    if bytes_eq name (codes "replay") then Some Replay
    else (if bytes_eq name (codes "run") then Some Run
    else (if bytes_eq name (codes "dump") then Some Dump
    else (if bytes_eq name (codes "audit") then Some Audit
    else (if bytes_eq name (codes "worth") then Some Worth else None))))

-- the command that is a name and one number
abbrev pub single_command : List ℕ → List ℕ → Option Command
single_command name first = if bytes_eq name (codes "batch") then option_map Batch (count_of 16 first) else None

-- the command that is a name and two numbers
abbrev pub counted_command : List ℕ → List ℕ → List ℕ → Option Command
counted_command name first second =
    if bytes_eq name (codes "make") then with_numbers Make (number_of (2 ^ 64) first) (count_of 20000 second)
    else (if bytes_eq name (codes "bulk") then with_numbers Bulk (number_of (2 ^ 64) first) (count_of 20000 second)
    else (if bytes_eq name (codes "migrate") then with_numbers Migrate (count_of 65536 first) (count_of 65535 second)
    else None))

-- the command that the words after the program's name are
unfoldable pub command_of : List (List ℕ) → Option Command
command_of (name ∷ []) = plain_command name
command_of (name ∷ first ∷ []) = single_command name first
command_of (name ∷ first ∷ second ∷ []) = counted_command name first second
command_of _ = None

-- a hyphen stands at the front of the word
abbrev pub begins_with_hyphen : List ℕ → Bool
begins_with_hyphen [] = false
begins_with_hyphen (byte ∷ rest) = byte == 45

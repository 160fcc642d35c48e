-- The words by their places.
use Rattle.std.specs.Prelude.{◌≡◌, ◌⊎◌, ◌<◌, true, ℕ, List, [], length, slice_get, codes, Option, Some, None}
use Rattle.clap.specs.Simple.{App, new_app, new_rule, on_top, with_rule}
use Rattle.clap.specs.Walk.{Rule}
use Rattle.clap.specs.Words.{first_value}
use Rattle.clap.specs.declared.error.kind.ErrorKind.{ErrorKind}
use Rattle.clap.specs.declared.error.kind.ErrorKind.TheVariants as kind
use Rattle.clap.specs.declared.parser.matches.Found.{Found}
use Rattle.dex_words.specs.Commands.{counted_command, plain_command, single_command}
use Rattle.dex_words.specs.declared.command.Command.{Command}
use Rattle.dex_words.specs.declared.command.WordsError.{WordsError}
use Rattle.dex_words.specs.declared.command.WordsError.TheVariants.{Usage, NoMemory}

-- the rule of the command's name
abbrev pub name_rule : Rule
name_rule = record (new_rule (codes "command")) { required = true }

-- a line before its words: the parser takes no name of the program and has no flag for help
abbrev pub bare_line : App
bare_line =
    on_top (λ s. record s { disable_help_flag = true })
    (on_top (λ s. record s { no_binary_name = true }) (new_app (codes "dex")))

-- the line that the parser reads: a command's name, and up to two words after it
abbrev pub line : App
line = with_rule (with_rule (with_rule bare_line name_rule) (new_rule (codes "first"))) (new_rule (codes "second"))

-- one to three words, each found at its place
pub record ArePlaced (words : List (List ℕ)) (found : Found) : Type 0 where
  pub some : 0 < length words
  pub few : length words < 4
  pub name : first_value found (codes "command") ≡ slice_get words 0
  pub first : first_value found (codes "first") ≡ slice_get words 1
  pub second : first_value found (codes "second") ≡ slice_get words 2

-- no words, or more than there are places
abbrev pub IsOutOfPlaces : List (List ℕ) → Type 0
IsOutOfPlaces words = (words ≡ []) ⊎ (3 < length words)

-- what an error of the parser comes to
abbrev pub error_of : ErrorKind → WordsError
error_of kind.OutOfMemory = NoMemory
error_of _ = Usage

-- the command of a name and the two words after it, where they are there
abbrev pub given_command : Option (List ℕ) → Option (List ℕ) → Option (List ℕ) → Option Command
given_command (Some name) None None = plain_command name
given_command (Some name) (Some first) None = single_command name first
given_command (Some name) (Some first) (Some second) = counted_command name first second
given_command _ _ _ = None

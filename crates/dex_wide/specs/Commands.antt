-- The words that are commands of the program.
use Rattle.std.specs.Prelude.{ℕ, List, Option, Some, None, option_and_then}
use Rattle.dex_words.specs.Commands.{command_of}
use Rattle.dex_words.specs.declared.command.Command.{Command}
use Rattle.dex_words.specs.declared.command.Command.TheVariants.{Run, Batch}

-- a command, if it is one on one thread
abbrev pub on_one_thread : Command → Option Command
on_one_thread Run = None
on_one_thread (Batch workers) = None
on_one_thread command = Some command

-- the command that words are to this program
abbrev pub wide_command_of : List (List ℕ) → Option Command
wide_command_of words = option_and_then on_one_thread (command_of words)

-- What words ask of the program.
use Rattle.std.proofs.Common.{◌≡◌, ◌∙◌, ℕ, List, Some, None, ap, option_and_then, refl, sym}
use Rattle.dex_words.specs.declared.command.Command.{Command}
use Rattle.dex_words.specs.declared.command.PlainCommand.{PlainCommand}
use Rattle.dex_words.specs.declared.command.PlainCommand.TheVariants as plain
use Rattle.dex_words.specs.declared.command.ThreadedCommand.{ThreadedCommand}
use Rattle.dex_words.specs.declared.command.ThreadedCommand.TheVariants as threaded
use Rattle.dex_words.specs.Commands.{command_of}
use Rattle.dex_words.specs.Threads.{of_plain, of_threaded}
use Rattle.dex_wide.specs.Commands.{on_one_thread, wide_command_of}

threaded-none : (command : ThreadedCommand) → on_one_thread (of_threaded command) ≡ None
threaded-none threaded.Run = refl
threaded-none (threaded.Batch workers) = refl

plain-is : (command : PlainCommand) → on_one_thread (of_plain command) ≡ Some (of_plain command)
plain-is plain.Replay = refl
plain-is plain.Dump = refl
plain-is plain.Audit = refl
plain-is plain.Worth = refl
plain-is (plain.Make number rows) = refl
plain-is (plain.Bulk number rows) = refl
plain-is (plain.Migrate nodes events) = refl

-- words that are no command
pub asks-none : (words : List (List ℕ)) → command_of words ≡ None → wide_command_of words ≡ None
asks-none words none = ap (option_and_then on_one_thread) none

-- or one on several threads
pub asks-threaded : (words : List (List ℕ)) (command : Command) (one : ThreadedCommand) → command_of words ≡ Some command → of_threaded one ≡ command
    → wide_command_of words ≡ None
asks-threaded words command one is same = ap (option_and_then on_one_thread) is ∙ ap on_one_thread (sym same) ∙ threaded-none one

-- or one on one thread
pub asks-plain : (words : List (List ℕ)) (command : Command) → command_of words ≡ Some command → (one : PlainCommand) × (of_plain one ≡ command)
    → wide_command_of words ≡ Some command
asks-plain words command is (one, same) = ap (option_and_then on_one_thread) is ∙ ap on_one_thread (sym same) ∙ plain-is one ∙ ap Some same

-- Commands on one thread and on several, among all commands.
use Rattle.dex_words.specs.declared.command.Command.{Command}
use Rattle.dex_words.specs.declared.command.Command.TheVariants.{Replay, Run, Dump, Audit, Worth, Make, Bulk, Migrate, Batch}
use Rattle.dex_words.specs.declared.command.PlainCommand.{PlainCommand}
use Rattle.dex_words.specs.declared.command.PlainCommand.TheVariants as plain
use Rattle.dex_words.specs.declared.command.ThreadedCommand.{ThreadedCommand}
use Rattle.dex_words.specs.declared.command.ThreadedCommand.TheVariants as threaded

-- a command on one thread, as one of all
abbrev pub of_plain : PlainCommand → Command
of_plain plain.Replay = Replay
of_plain plain.Dump = Dump
of_plain plain.Audit = Audit
of_plain plain.Worth = Worth
of_plain (plain.Make number rows) = Make number rows
of_plain (plain.Bulk number rows) = Bulk number rows
of_plain (plain.Migrate nodes events) = Migrate nodes events

-- a command on several threads, as one of all
abbrev pub of_threaded : ThreadedCommand → Command
of_threaded threaded.Run = Run
of_threaded (threaded.Batch workers) = Batch workers

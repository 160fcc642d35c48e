-- What is known of the answers of all commands.
use Rattle.std.proofs.Common.{◌≡◌, ℕ, true, false, List, refl}
use Rattle.dex_words.specs.declared.command.Command.{Command}
use Rattle.dex_words.specs.declared.command.Command.TheVariants.{Replay, Run, Dump, Audit, Worth, Make, Bulk, Migrate, Batch}
use Rattle.dex_words.specs.declared.command.PlainCommand.{PlainCommand}
use Rattle.dex_words.specs.declared.command.PlainCommand.TheVariants as plain
use Rattle.dex_words.specs.Threads.{of_plain}
use Rattle.dex_types.specs.declared.limits.Limits.{Limits}
use Rattle.dex_types.specs.declared.limits.TheConstants.{STANDARD}
use Rattle.dex_answers.specs.Answers.{AnswersWithin, IsNoScript}
use Rattle.dex_answers.specs.Suits.{Suits}
use Rattle.dex_answers.specs.declared.status.Status.{Status}
use Rattle.dex_answers.specs.declared.status.Status.TheVariants as status
use Rattle.dex_answers.proofs.AnswerLaws.{answered, read-told}
use Rattle.dex_commands.specs.LaneAnswers.{AnswersAll, AnswersBatch, AnswersRun}

-- a command on one thread answers so as one of all
pub plain_answers : (limits : Limits) (command : PlainCommand) (bytes : List ℕ) (stood : Status) (text : List ℕ)
    → AnswersWithin limits (of_plain command) bytes stood text → AnswersAll limits (of_plain command) bytes stood text
plain_answers limits plain.Replay bytes stood text told = told
plain_answers limits plain.Dump bytes stood text told = told
plain_answers limits plain.Audit bytes stood text told = told
plain_answers limits plain.Worth bytes stood text told = told
plain_answers limits (plain.Make number rows) bytes stood text told = told
plain_answers limits (plain.Bulk number rows) bytes stood text told = told
plain_answers limits (plain.Migrate nodes events) bytes stood text told = told

-- bytes that are no script are not run, on lanes or in a batch
pub no-run : (bytes : List ℕ) (stood : Status) (text : List ℕ) → IsNoScript STANDARD false bytes stood text → AnswersRun bytes stood text
no-run bytes status.Ok text why = absurd why
no-run bytes _ text why = why

pub no-batch : (bytes : List ℕ) (stood : Status) (text : List ℕ) → IsNoScript STANDARD true bytes stood text → AnswersBatch bytes stood text
no-batch bytes status.Ok text why = absurd why
no-batch bytes _ text why = why

-- what suits is answered
pub all-answered : (command : Command) (bytes : List ℕ) (stood : Status) (text : List ℕ) → Suits command bytes → AnswersAll STANDARD command bytes stood text
    → stood ≡ status.Ok
all-answered Run bytes status.Ok text suits told = refl
all-answered Run bytes stood text suits told = absurd (read-told STANDARD false bytes suits.0 stood text suits.1 told)
all-answered (Batch workers) bytes status.Ok text suits told = refl
all-answered (Batch workers) bytes stood text suits told = absurd (read-told STANDARD true bytes suits.0 stood text suits.1 told)
all-answered Replay bytes stood text suits told = answered Replay bytes stood text suits told
all-answered Dump bytes stood text suits told = answered Dump bytes stood text suits told
all-answered Worth bytes stood text suits told = answered Worth bytes stood text suits told
all-answered Audit bytes stood text suits told = answered Audit bytes stood text suits told
all-answered (Make number rows) bytes stood text suits told = answered (Make number rows) bytes stood text suits told
all-answered (Bulk number rows) bytes stood text suits told = answered (Bulk number rows) bytes stood text suits told
all-answered (Migrate nodes events) bytes stood text suits told = answered (Migrate nodes events) bytes stood text suits told

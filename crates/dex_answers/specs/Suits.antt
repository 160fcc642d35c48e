-- Bytes to which a command has an answer that is no refusal.
use Rattle.std.specs.Prelude.{ℕ, ◌≡◌, true, false, List, None}
use Rattle.dex_types.specs.Accounts.{PlainAccounts}
use Rattle.dex_words.specs.declared.command.Command.{Command}
use Rattle.dex_words.specs.declared.command.Command.TheVariants.{Replay, Run, Dump, Audit, Worth, Make, Bulk, Migrate, Batch}
use Rattle.dex_migrate.specs.TooSmall.{first_fault}
use Rattle.dex_types.specs.declared.limits.TheConstants.{STANDARD}
use Rattle.dex_script_types.specs.PlainScript.{PlainScript}
use Rattle.dex_script.specs.Scripts.{Reads}
use Rattle.dex_answers.specs.Answers.{IsClean}

-- the bytes are a script, or the dump of accounts without findings, all of which fits where they are migrated. `make`
-- and `bulk` look at no bytes
abbrev pub Suits : Command → List ℕ → Type 0
Suits Replay bytes = (script : PlainScript) × Reads false bytes script
Suits Run bytes = (script : PlainScript) × Reads false bytes script
Suits (Batch workers) bytes = (script : PlainScript) × Reads true bytes script
Suits Dump bytes = (script : PlainScript) × Reads false bytes script
Suits Worth bytes = (script : PlainScript) × Reads false bytes script
Suits Audit bytes = (accounts : PlainAccounts) × IsClean STANDARD bytes accounts
Suits (Make number rows) bytes = Unit {0}
Suits (Bulk number rows) bytes = Unit {0}
Suits (Migrate nodes events) bytes =
    (accounts : PlainAccounts) × IsClean STANDARD bytes accounts × (first_fault nodes events accounts.markets ≡ None)

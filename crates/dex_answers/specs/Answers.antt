-- What a command on one thread answers, by its status: the text, and what it says of the bytes that were read.
use Rattle.std.specs.Prelude.{ℕ, ◌≡◌, Bool, false, List, [], length, Some, Ok, Err}
use Rattle.dex_types.specs.Accounts.{PlainAccounts}
use Rattle.dex_words.specs.declared.command.Command.{Command}
use Rattle.dex_words.specs.declared.command.Command.TheVariants.{Replay, Run, Dump, Audit, Worth, Make, Bulk, Migrate, Batch}
use Rattle.dex_statement.specs.declared.faults.FaultKind.{FaultKind}
use Rattle.dex_statement.specs.Faults.{code_of, kind_number}
use Rattle.dex_types.specs.declared.limits.Limits.{Limits}
use Rattle.dex_types.specs.declared.limits.TheConstants.{STANDARD}
use Rattle.dex_dump.specs.declared.faults.DumpFault.{DumpFault}
use Rattle.dex_dump.specs.Answers.{AnswersText}
use Rattle.dex_dump.specs.DumpText.{dump_text}
use Rattle.dex_audit_rules.specs.declared.finding.Finding.{Finding}
use Rattle.dex_audit.specs.Findings.{findings}
use Rattle.dex_migrate.specs.declared.faults.MigrateFault.{MigrateFault}
use Rattle.dex_migrate.specs.Migrated.{AreMigrated}
use Rattle.dex_migrate.specs.TooSmall.{first_fault}
use Rattle.dex_script_types.specs.PlainScript.{PlainScript}
use Rattle.dex_script_types.specs.Facts.{HasNoSwap}
use Rattle.dex_script.specs.Scripts.{IsRefusedWithin, ReadsWithin}
use Rattle.dex_script.specs.Scripts.Refusal.{AtRow, InAudit, InDump}
use Rattle.dex_report.specs.Bulk.{bulk_text}
use Rattle.dex_report.specs.Made.{made_text}
use Rattle.dex_state.specs.Outcomes.{PlainOutcome}
use Rattle.dex_report.specs.Report.{report_text}
use Rattle.dex_report.specs.Telling.{IsToldOutcome}
use Rattle.dex_world.specs.Items.{items_of}
use Rattle.dex_replay.specs.Replays.{IsLeftByRows, IsReplayOf}
use Rattle.dex_replay.specs.Runs.{IsRunOf}
use Rattle.dex_replay.specs.WorthTold.{table_told}
use Rattle.dex_replay.specs.WorthText.{worth_text}
use Rattle.dex_refusal_lines.specs.Lines as lines
use Rattle.dex_answers.specs.Paired.{ArePaired}
use Rattle.dex_answers.specs.declared.status.Status.{Status}
use Rattle.dex_answers.specs.declared.status.Status.TheVariants as status

-- how many instruction rows a report tells of: rows of one number are one
abbrev pub rows_told : PlainScript → ℕ
rows_told script = length (items_of script.rows)

-- this is what is left when all items of a script have acted in their order. It is lawful, its markets are sound and
-- its mints conserved; of each swap both legs took, or neither; and where there is no swap it is what is left when the
-- rows have acted, each by itself
pub record IsPlayed (script : PlainScript) (outcome : PlainOutcome) : Type 0 where
  pub replay : IsReplayOf script outcome
  pub run : IsRunOf script outcome
  pub paired : ArePaired script outcome
  pub rows : HasNoSwap script.rows → IsLeftByRows script script.rows outcome

-- the bytes are a script within these limits, this is what is left when all its items have acted, and the text tells it
abbrev pub Replayed : Limits → List ℕ → (PlainScript → PlainOutcome → List ℕ) → List ℕ → Type 0
Replayed limits bytes told text =
    (script : PlainScript) × (outcome : PlainOutcome) × ReadsWithin limits false bytes script × IsPlayed script outcome
    × (text ≡ told script outcome)

-- the bytes are a script within these limits (one for a batch, where so told), this is what is left when all its items
-- have acted, and the text is its report. The values of the outcome fit and its movements stand from the front, so no
-- other such outcome has this report
abbrev pub Reported : Limits → Bool → List ℕ → List ℕ → Type 0
Reported limits batch bytes text =
    (script : PlainScript) × (outcome : PlainOutcome) × ReadsWithin limits batch bytes script × IsPlayed script outcome
    × IsToldOutcome outcome × (text ≡ report_text outcome (rows_told script))

-- the bytes are the dump, within these limits, of accounts without findings
abbrev pub IsClean : Limits → List ℕ → PlainAccounts → Type 0
IsClean limits bytes accounts = AnswersText limits bytes (Ok accounts) × (findings accounts ≡ [])

-- the line that names a faulty row of a script
abbrev pub row_line : ℕ → FaultKind → List ℕ
row_line row kind = lines.script_refused (record { row = row; kind = kind_number kind; code = code_of kind })

-- the bytes are no script within these limits (none for a batch, where so told): the text names the first faulty row,
-- or it tells the fault or the findings of the dump at its start
abbrev pub IsNoScript : Limits → Bool → List ℕ → Status → List ℕ → Type 0
IsNoScript limits batch bytes status.ScriptRefused text =
    (row : ℕ) × (kind : FaultKind) × IsRefusedWithin limits batch bytes (AtRow row kind) × (text ≡ row_line row kind)
IsNoScript limits batch bytes status.DumpRefused text =
    (fault : DumpFault) × IsRefusedWithin limits batch bytes (InDump fault) × (text ≡ lines.dump_refused fault)
IsNoScript limits batch bytes status.AuditFailed text =
    (found : List Finding) × IsRefusedWithin limits batch bytes (InAudit found) × ¬ (found ≡ []) × (text ≡ lines.audit_failed found)
IsNoScript limits batch bytes _ text = ⊥

-- the bytes are no dump within these limits of accounts without findings: the text names the first faulty row, or it
-- tells the findings
abbrev pub IsNotClean : Limits → List ℕ → Status → List ℕ → Type 0
IsNotClean limits bytes status.DumpRefused text =
    (fault : DumpFault) × AnswersText limits bytes (Err fault) × (text ≡ lines.dump_refused fault)
IsNotClean limits bytes status.AuditFailed text =
    (accounts : PlainAccounts) × AnswersText limits bytes (Ok accounts) × ¬ (findings accounts ≡ [])
    × (text ≡ lines.audit_failed (findings accounts))
IsNotClean limits bytes _ text = ⊥

-- what a command on one thread answers to bytes within these limits: the status and the text. `make` and `bulk` look at
-- no bytes, and `run` and `batch` act on several threads
abbrev pub AnswersWithin : Limits → Command → List ℕ → Status → List ℕ → Type 0
AnswersWithin limits Replay bytes status.Ok text = Reported limits false bytes text
AnswersWithin limits Replay bytes stood text = IsNoScript limits false bytes stood text
AnswersWithin limits Run bytes stood text = ⊥
AnswersWithin limits (Batch workers) bytes stood text = ⊥
AnswersWithin limits Dump bytes status.Ok text = Replayed limits bytes (λ script outcome. dump_text outcome.accounts) text
AnswersWithin limits Dump bytes stood text = IsNoScript limits false bytes stood text
AnswersWithin limits Audit bytes status.Ok text =
    (accounts : PlainAccounts) × IsClean limits bytes accounts
    × (text ≡ lines.audit_ok (length accounts.markets) (length accounts.wallets))
AnswersWithin limits Audit bytes stood text = IsNotClean limits bytes stood text
AnswersWithin limits Worth bytes status.Ok text =
    Replayed limits bytes (λ script outcome. worth_text (length script.start.markets) (table_told script outcome)) text
AnswersWithin limits Worth bytes stood text = IsNoScript limits false bytes stood text
AnswersWithin limits (Make number rows) bytes status.Ok text = text ≡ made_text number rows
AnswersWithin limits (Make number rows) bytes stood text = ⊥
AnswersWithin limits (Bulk number rows) bytes status.Ok text =
    Replayed STANDARD (made_text number rows) (λ script outcome. bulk_text number rows outcome) text
AnswersWithin limits (Bulk number rows) bytes stood text = ⊥
AnswersWithin limits (Migrate nodes events) bytes status.Ok text =
    (accounts migrated : PlainAccounts) × IsClean limits bytes accounts × AreMigrated nodes events accounts migrated
    × (text ≡ dump_text migrated)
AnswersWithin limits (Migrate nodes events) bytes status.MigrateRefused text =
    (accounts : PlainAccounts) × (fault : MigrateFault) × IsClean limits bytes accounts
    × (first_fault nodes events accounts.markets ≡ Some fault) × (text ≡ lines.migrate_refused fault)
AnswersWithin limits (Migrate nodes events) bytes stood text = IsNotClean limits bytes stood text

-- what a command answers within the program's limits
abbrev pub Answers : Command → List ℕ → Status → List ℕ → Type 0
Answers command bytes stood text = AnswersWithin STANDARD command bytes stood text

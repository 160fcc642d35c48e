-- What a text of rows says: a script, or why it is none.
use Rattle.std.specs.Prelude.{◌≡◌, ℕ, Bool, true, false, List, [], ◌∷◌, Result, Ok, Err}
use Rattle.dex_rows.specs.Records.{rows_of}
use Rattle.dex_types.specs.declared.limits.Limits.{Limits}
use Rattle.dex_types.specs.declared.limits.TheConstants.{STANDARD}
use Rattle.dex_statement.specs.declared.faults.FaultKind.{FaultKind}
use Rattle.dex_statement.specs.Faults.{◌>>=◌}
use Rattle.dex_statement.specs.Words.{Fields}
use Rattle.dex_dump.specs.declared.faults.DumpFault.{DumpFault}
use Rattle.dex_dump.specs.Answers.{AnswersDump, PlainAnswer, next_number}
use Rattle.dex_dump_rows.specs.Lines.{is_first_row}
use Rattle.dex_audit_rules.specs.declared.finding.Finding.{Finding}
use Rattle.dex_audit.specs.Findings.{findings}
use Rattle.dex_script_types.specs.PlainScript.{PlainScript}
use Rattle.dex_script.specs.Drafts.{PlainDraft, behind_dump, no_rows}
use Rattle.dex_script.specs.Rows.{with_row}

-- why a text is no script: its first faulty row, by its number, with the lowest of its faults; or the dump at its start
-- is faulty, or its accounts have findings
pub data Refusal : Type 0 where
  AtRow : (row : ℕ) (kind : FaultKind) → Refusal
  InDump : (fault : DumpFault) → Refusal
  InAudit : (found : List Finding) → Refusal

-- a fault of the row of this number
abbrev pub fault_in : {A : Type 0} → ℕ → Result A FaultKind → Result A Refusal
fault_in number (Ok x) = Ok x
fault_in number (Err kind) = Err (AtRow number kind)

-- the rows, numbered from this number on, are read one after the other; the first faulty one stops
abbrev pub draft_after : PlainDraft → ℕ → List Fields → Result PlainDraft Refusal
draft_after draft number [] = Ok draft
draft_after draft number (row ∷ rows) =
    fault_in number (with_row draft number row) >>= λ next. draft_after next (next_number number) rows

-- the script that rows give, the first of them of this number, after what was read
abbrev pub script_from : PlainDraft → ℕ → List Fields → Result PlainScript Refusal
script_from draft number rows = draft_after draft number rows >>= λ last. Ok last.script

-- the first row is that of a dump
abbrev pub begins_with_dump : List Fields → Bool
begins_with_dump [] = false
begins_with_dump (row ∷ rows) = is_first_row row

-- accounts are audited before any later row is looked at
abbrev pub unless_found : {A : Type 0} → List Finding → Result A Refusal → Result A Refusal
unless_found [] next = next
unless_found (finding ∷ found) next = Err (InAudit (finding ∷ found))

-- the script that begins with what a dump answers
abbrev pub behind : Limits → Bool → PlainAnswer → Result PlainScript Refusal
behind limits batch (Err fault) = Err (InDump fault)
behind limits batch (Ok dump) =
    unless_found (findings dump.accounts) (script_from (behind_dump limits batch dump.accounts) (next_number dump.count) dump.behind)

-- what rows answer, by whether they begin with a dump
abbrev pub AnswersBy : Limits → Bool → Bool → List Fields → Result PlainScript Refusal → Type 0
AnswersBy limits batch true rows answer = (dump : PlainAnswer) × AnswersDump limits rows dump × (answer ≡ behind limits batch dump)
AnswersBy limits batch false rows answer = answer ≡ script_from (no_rows limits batch) 1 rows

-- what a text answers within these limits: its script, or why it is none. Whether the script is to act in batches
-- stands before the text: such a script has no swap
abbrev pub Answers : Limits → Bool → List ℕ → Result PlainScript Refusal → Type 0
Answers limits batch text answer = AnswersBy limits batch (begins_with_dump (rows_of text)) (rows_of text) answer

-- the text is in the grammar of scripts, and is this script, within these limits
abbrev pub ReadsWithin : Limits → Bool → List ℕ → PlainScript → Type 0
ReadsWithin limits batch text script = Answers limits batch text (Ok script)

-- the text is no script within these limits for this reason, and none comes before it
abbrev pub IsRefusedWithin : Limits → Bool → List ℕ → Refusal → Type 0
IsRefusedWithin limits batch text refusal = Answers limits batch text (Err refusal)

-- within the program's limits
abbrev pub Reads : Bool → List ℕ → PlainScript → Type 0
Reads batch text script = ReadsWithin STANDARD batch text script

abbrev pub IsRefused : Bool → List ℕ → Refusal → Type 0
IsRefused batch text refusal = IsRefusedWithin STANDARD batch text refusal

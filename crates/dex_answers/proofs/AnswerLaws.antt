-- A text that is read as a script, or as a dump, is read as nothing else.
use Rattle.std.proofs.Common.{◌≡◌, ◌∙◌, ◌∷◌, [], ℕ, Bool, true, false, List, Result, Ok, Err, ap, refl, subst, sym}
use Rattle.std.proofs.lemmas.Option.{none-some}
use Rattle.dex_types.specs.Accounts.{PlainAccounts}
use Rattle.dex_words.specs.declared.command.Command.{Command}
use Rattle.dex_words.specs.declared.command.Command.TheVariants.{Replay, Run, Dump, Audit, Worth, Make, Bulk, Migrate, Batch}
use Rattle.dex_rows.specs.Records.{rows_of}
use Rattle.dex_statement.specs.Words.{Fields}
use Rattle.dex_statement.specs.Faults.{◌>>=◌}
use Rattle.dex_statement.specs.declared.faults.FaultKind.{FaultKind}
use Rattle.dex_migrate.specs.TooSmall.{first_fault}
use Rattle.dex_types.specs.declared.limits.Limits.{Limits}
use Rattle.dex_types.specs.declared.limits.TheConstants.{STANDARD}
use Rattle.dex_dump.specs.declared.faults.DumpFault.{DumpFault}
use Rattle.dex_dump.specs.Answers.{AnswersDump, AnswersText, PlainAnswer, next_number}
use Rattle.dex_dump.proofs.OneAnswer.{dump-once, text-once}
use Rattle.dex_audit.specs.Findings.{findings}
use Rattle.dex_audit_rules.specs.declared.finding.Finding.{Finding}
use Rattle.dex_script_types.specs.PlainScript.{PlainScript}
use Rattle.dex_script.specs.Drafts.{PlainDraft, behind_dump, no_rows}
use Rattle.dex_script.specs.Rows.{with_row}
use Rattle.dex_script.specs.Scripts.{AnswersBy, IsRefusedWithin, ReadsWithin, Refusal, begins_with_dump, behind, draft_after, fault_in, script_from, unless_found}
use Rattle.dex_script.specs.Scripts.Refusal.{AtRow, InAudit, InDump}
use Rattle.dex_answers.specs.declared.status.Status.{Status}
use Rattle.dex_answers.specs.declared.status.Status.TheVariants as status
use Rattle.dex_answers.specs.Answers.{Answers, AnswersWithin, IsClean, IsNoScript, IsNotClean}
use Rattle.dex_answers.specs.Suits.{Suits}

-- ---- scripts

ok-err : {A E : Type 0} (x : A) (e : E) → ◌≡◌ {A = Result A E} (Ok x) (Err e) → ⊥
ok-err x e is = cc

-- one answer of a text that begins with a dump is its script, another one is not a refusal
once : (limits : Limits) (batch b : Bool) (rows : List Fields) (script : PlainScript) (refusal : Refusal) → AnswersBy limits batch b rows (Ok script)
    → AnswersBy limits batch b rows (Err refusal) → ⊥
once limits batch false rows script refusal is other = ok-err script refusal (is ∙ sym other)
once limits batch true rows script refusal is other = from is.0 is.1 is.2
  where
    from : (dump : PlainAnswer) → AnswersDump limits rows dump → Ok script ≡ behind limits batch dump → ⊥
    from (Err fault) of told = ok-err script (InDump fault) told
    from (Ok dump) of told =
        let same : other.0 ≡ Ok dump = dump-once limits rows dump other.0 of other.1 in
        ok-err script refusal (told ∙ sym (other.2 ∙ ap (behind limits batch) same))

pub read-once : (limits : Limits) (batch : Bool) (text : List ℕ) (script : PlainScript) (refusal : Refusal) → ReadsWithin limits batch text script
    → IsRefusedWithin limits batch text refusal → ⊥
read-once limits batch text script refusal is other = once limits batch (begins_with_dump (rows_of text)) (rows_of text) script refusal is other

-- a script is none of which the text says that it is none
pub read-told : (limits : Limits) (batch : Bool) (text : List ℕ) (script : PlainScript) (stood : Status) (told : List ℕ) → ReadsWithin limits batch text script
    → IsNoScript limits batch text stood told → ⊥
read-told limits batch text script status.ScriptRefused told is why = read-once limits batch text script (AtRow why.0 why.1) is why.2
read-told limits batch text script status.DumpRefused told is why = read-once limits batch text script (InDump why.0) is why.1
read-told limits batch text script status.AuditFailed told is why = read-once limits batch text script (InAudit why.0) is why.1
read-told limits batch text script _ told is why = why

-- bytes that are no script have no worth told
pub no-worth : (limits : Limits) (bytes : List ℕ) (stood : Status) (text : List ℕ) → IsNoScript limits false bytes stood text
    → AnswersWithin limits Worth bytes stood text
no-worth limits bytes status.Ok text why = absurd why
no-worth limits bytes _ text why = why

-- ---- dumps

err-ok : {A E : Type 0} (x : A) (e : E) → ◌≡◌ {A = Result A E} (Err e) (Ok x) → ⊥
err-ok x e is = cc

ok-same : {A E : Type 0} (x y : A) → ◌≡◌ {A = Result A E} (Ok x) (Ok y) → x ≡ y
ok-same x y is = cc

-- two accounts of one dump
accounts-once : (limits : Limits) (text : List ℕ) (accounts others : PlainAccounts) → AnswersText limits text (Ok accounts)
    → AnswersText limits text (Ok others) → others ≡ accounts
accounts-once limits text accounts others is other = ok-same {E = DumpFault} others accounts (text-once limits text accounts (Ok others) is other)

clean-told : (limits : Limits) (text : List ℕ) (accounts : PlainAccounts) (stood : Status) (told : List ℕ) → IsClean limits text accounts → IsNotClean limits text stood told → ⊥
clean-told limits text accounts status.DumpRefused told is why = err-ok accounts why.0 (text-once limits text accounts (Err why.0) is.0 why.1)
clean-told limits text accounts status.AuditFailed told is why =
    why.2 (subst (λ (a : PlainAccounts). findings a ≡ []) (sym (accounts-once limits text accounts why.0 is.0 why.1)) is.1)
clean-told limits text accounts _ told is why = why

-- ---- findings

by-row : (r : Result PlainDraft FaultKind) (number : ℕ) (rows : List Fields) (found : List Finding)
    → (fault_in number r >>= λ next. draft_after next (next_number number) rows) ≡ Err (InAudit found)
    → ((next : PlainDraft) → draft_after next (next_number number) rows ≡ Err (InAudit found) → ⊥) → ⊥
by-row (Ok next) number rows found is each = each next is
by-row (Err kind) number rows found is each = cc

-- rows have no findings
no-audit : (draft : PlainDraft) (number : ℕ) (rows : List Fields) (found : List Finding) → draft_after draft number rows ≡ Err (InAudit found) → ⊥
no-audit draft number [] found is = ok-err draft (InAudit found) is
no-audit draft number (row ∷ rows) found is =
    by-row (with_row draft number row) number rows found is (λ next. no-audit next (next_number number) rows found)

last-audit : (r : Result PlainDraft Refusal) (found : List Finding) → (r >>= λ last. Ok last.script) ≡ Err (InAudit found) → r ≡ Err (InAudit found)
last-audit (Ok last) found is = absurd (ok-err last.script (InAudit found) is)
last-audit (Err why) found is = cc

unless-audit : (fs : List Finding) (next : Result PlainScript Refusal) (found : List Finding) → (next ≡ Err (InAudit found) → ⊥)
    → unless_found fs next ≡ Err (InAudit found) → found ≡ [] → ⊥
unless-audit [] next found none is empty = none is
unless-audit (f ∷ fs) next found none is empty = cc

-- a script is refused for findings where there are some
pub found-some : (limits : Limits) (batch : Bool) (text : List ℕ) (found : List Finding) → IsRefusedWithin limits batch text (InAudit found) → found ≡ [] → ⊥
found-some limits batch text found is empty = by (begins_with_dump (rows_of text)) is
  where
    from : (dump : PlainAnswer) → Err (InAudit found) ≡ behind limits batch dump → ⊥
    from (Err fault) told = cc
    from (Ok dump) told =
        let draft = behind_dump limits batch dump.accounts in
        let number = next_number dump.count in
        unless-audit (findings dump.accounts) (script_from draft number dump.behind) found
        (λ none. no-audit draft number dump.behind found (last-audit (draft_after draft number dump.behind) found none)) (sym told) empty

    by : (b : Bool) → AnswersBy limits batch b (rows_of text) (Err (InAudit found)) → ⊥
    by false told = no-audit (no_rows limits batch) 1 (rows_of text) found (last-audit (draft_after (no_rows limits batch) 1 (rows_of text)) found (sym told))
    by true told = from told.0 told.2

-- ---- what suits a command

pub answered : (command : Command) (bytes : List ℕ) (stood : Status) (text : List ℕ) → Suits command bytes → Answers command bytes stood text → stood ≡ status.Ok
answered Replay bytes status.Ok text suits told = refl
answered Replay bytes stood text suits told = absurd (read-told STANDARD false bytes suits.0 stood text suits.1 told)
answered Run bytes stood text suits told = absurd told
answered (Batch workers) bytes stood text suits told = absurd told
answered Dump bytes status.Ok text suits told = refl
answered Dump bytes stood text suits told = absurd (read-told STANDARD false bytes suits.0 stood text suits.1 told)
answered Worth bytes status.Ok text suits told = refl
answered Worth bytes stood text suits told = absurd (read-told STANDARD false bytes suits.0 stood text suits.1 told)
answered Audit bytes status.Ok text suits told = refl
answered Audit bytes stood text suits told = absurd (clean-told STANDARD bytes suits.0 stood text suits.1 told)
answered (Make number rows) bytes status.Ok text suits told = refl
answered (Make number rows) bytes stood text suits told = absurd told
answered (Bulk number rows) bytes status.Ok text suits told = refl
answered (Bulk number rows) bytes stood text suits told = absurd told
answered (Migrate nodes events) bytes status.Ok text suits told = refl
answered (Migrate nodes events) bytes status.MigrateRefused text suits told =
    let same = accounts-once STANDARD bytes suits.0 told.0 suits.1.0 told.2.0 in
    absurd (none-some told.1 (sym suits.2 ∙ ap (λ (a : PlainAccounts). first_fault nodes events a.markets) (sym same) ∙ told.3))
answered (Migrate nodes events) bytes stood text suits told = absurd (clean-told STANDARD bytes suits.0 stood text suits.1 told)

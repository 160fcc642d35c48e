-- What a text answers, from what its rows give.
use Rattle.std.proofs.Common.{◌≡◌, ◌∙◌, ℕ, Bool, true, false, List, [], Result, Ok, Err, ap, subst, sym}
use Rattle.dex_rows.specs.Records.{rows_of}
use Rattle.dex_types.specs.declared.limits.Limits.{Limits}
use Rattle.dex_statement.specs.Faults.{◌>>=◌}
use Rattle.dex_dump.specs.Answers.{AnswersDump, PlainDump, next_number}
use Rattle.dex_audit.specs.Findings.{findings}
use Rattle.dex_audit_rules.specs.declared.finding.Finding.{Finding}
use Rattle.dex_script_types.specs.PlainScript.{PlainScript}
use Rattle.dex_script.specs.declared.fault.ScriptError.{ScriptError}
use Rattle.dex_script.specs.declared.fault.ScriptError.TheVariants as script
use Rattle.dex_script.specs.Drafts.{PlainDraft, behind_dump, no_rows}
use Rattle.dex_script.specs.Scripts.{Answers, AnswersBy, IsRefusedWithin, Refusal, begins_with_dump, draft_after, unless_found}
use Rattle.dex_script.specs.Telling.{TellsDraft, TellsError, TellsRefusal, TellsText}

-- the script of the last draft
abbrev last_script : Result PlainDraft Refusal → Result PlainScript Refusal
last_script given = given >>= λ last. Ok last.script

-- what the text answers is the script of these drafts
module _ (limits : Limits) (batch : Bool) (text : List ℕ) (given : Result PlainDraft Refusal)
    (answers : (answer : Result PlainScript Refusal) → answer ≡ last_script given → Answers limits batch text answer) where
  refused : (refusal : Refusal) → given ≡ Err refusal → IsRefusedWithin limits batch text refusal
  refused refusal is = answers (Err refusal) (sym (ap last_script is))

  tells-error : (error : ScriptError) → TellsRefusal error given → TellsError limits error batch text
  tells-error (script.Row row kind code) told = (told.0, refused _ told.1, told.2, told.3)
  tells-error (script.Dump fault) told = refused _ told
  tells-error (script.Audit found) told = refused _ told
  tells-error script.NoMemory told = tt

  pub tells : (result : Result PlainDraft ScriptError) → TellsDraft result given → TellsText limits result batch text
  tells (Ok draft) is = answers (Ok draft.script) (sym (ap last_script is))
  tells (Err error) told = tells-error error told

-- ---- a text without a dump

pub answers-plain : (limits : Limits) (batch : Bool) (text : List ℕ) → begins_with_dump (rows_of text) ≡ false
    → (answer : Result PlainScript Refusal) → answer ≡ last_script (draft_after (no_rows limits batch) 1 (rows_of text)) → Answers limits batch text answer
answers-plain limits batch text plain answer is = subst (λ (b : Bool). AnswersBy limits batch b (rows_of text) answer) (sym plain) is

-- ---- a text that begins with a dump

pub answers-behind : (limits : Limits) (batch : Bool) (text : List ℕ) → begins_with_dump (rows_of text) ≡ true → (dump : PlainDump)
    → AnswersDump limits (rows_of text) (Ok dump) → findings dump.accounts ≡ [] → (answer : Result PlainScript Refusal)
    → answer ≡ last_script (draft_after (behind_dump limits batch dump.accounts) (next_number dump.count) dump.behind) → Answers limits batch text answer
answers-behind limits batch text begins dump told none answer is =
    let next = last_script (draft_after (behind_dump limits batch dump.accounts) (next_number dump.count) dump.behind) in
    subst (λ (b : Bool). AnswersBy limits batch b (rows_of text) answer) (sym begins)
    (Ok dump, told, is ∙ ap (λ (fs : List Finding). unless_found fs next) (sym none))

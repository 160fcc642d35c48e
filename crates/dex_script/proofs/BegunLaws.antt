-- Texts whose first rows are read.
use Rattle.std.proofs.Common.{◌≡◌, ◌∙◌, ◌++◌, ℕ, Bool, true, false, List, [], Result, Ok, Err, IfErr, IfOk, ap, append_assoc, arith, refl, subst, sym}
use Rattle.dex_rows.specs.Records.{rows_of}
use Rattle.dex_types.specs.declared.limits.Limits.{Limits}
use Rattle.dex_types.specs.Limits.{AreLimits}
use Rattle.dex_audit.specs.Findings.{findings}
use Rattle.dex_dump.specs.Answers.{AnswersDump, PlainDump, next_number}
use Rattle.dex_statement.specs.Words.{Fields}
use Rattle.dex_script_types.specs.Facts.{IsStart}
use Rattle.dex_script.specs.declared.fault.ScriptError.{ScriptError}
use Rattle.dex_script.specs.declared.reading.Begun.{Begun}
use Rattle.dex_script.specs.Drafts.{PlainDraft, behind_dump, no_rows}
use Rattle.dex_script.specs.Pieces.{IsPartway, number_after}
use Rattle.dex_script.specs.Scripts.{begins_with_dump, draft_after}
use Rattle.dex_script.specs.Begun.{HasReadSome, IsBegun, TellsBegun, left_in}
use Rattle.dex_script.specs.Telling.{TellsDraft, TellsRefusal}
use Rattle.dex_script.proofs.OrderLaws.{first-good, goes-on}
use Rattle.dex_script.proofs.PieceLaws.{behind-both, number-both}
use Rattle.dex_script.proofs.ScriptLaws.{answers-behind, answers-plain, tells}
use Rattle.dex_script.proofs.StartLaws.{AuditedAreConserved, AuditedAreSound, dump-start, plain-start}

-- more rows were read
pub partway-on : (first : PlainDraft) (from : ℕ) (all : List Fields) (draft : PlainDraft) (number : ℕ) (left rows more : List Fields) (next : PlainDraft)
    (after : ℕ) → IsPartway first from all draft number left → left ≡ rows ++ more → draft_after draft number rows ≡ Ok next
    → after ≡ number_after number rows → IsPartway first from all next after more
partway-on first from all draft number left rows more next after is parts read at = record {
  front = is.front ++ rows;
  parts = is.parts ∙ ap (λ (l : List Fields). is.front ++ l) parts ∙ sym (append_assoc is.front rows more);
  read = behind-both first from is.front rows draft is.read ∙ ap (λ (n : ℕ). draft_after draft n rows) (sym is.next) ∙ read;
  next = at ∙ ap (λ (n : ℕ). number_after n rows) is.next ∙ sym (number-both from is.front rows);
}

module _ (limits : Limits) (batch : Bool) (text : List ℕ) where
  -- ---- before the first row

  pub begun-plain : AreLimits limits → begins_with_dump (rows_of text) ≡ false → IsBegun limits batch text (no_rows limits batch) 1 (rows_of text)
  begun-plain are plain =
      let first = no_rows limits batch in record {
        start = plain-start limits are batch [] first refl;
        within = refl;
        good = first-good 1 first refl refl refl (omega arith);
        tells = tells limits batch text (draft_after first 1 (rows_of text)) (answers-plain limits batch text plain);
      }

  pub begun-dump : AuditedAreSound → AuditedAreConserved → AreLimits limits → begins_with_dump (rows_of text) ≡ true → (dump : PlainDump)
      → AnswersDump limits (rows_of text) (Ok dump) → findings dump.accounts ≡ []
      → IsBegun limits batch text (behind_dump limits batch dump.accounts) (next_number dump.count) dump.behind
  begun-dump are-sound are-conserved are begins dump told none =
      let first = behind_dump limits batch dump.accounts in
      let number = next_number dump.count in record {
        start = dump-start are-sound are-conserved limits are (rows_of text) dump told none;
        within = refl;
        good = first-good number first refl refl refl (omega arith);
        tells = tells limits batch text (draft_after first number dump.behind) (answers-behind limits batch text begins dump told none);
      }

  -- ---- behind some rows

  module _ (first : PlainDraft) (from : ℕ) (all : List Fields) (begun : IsBegun limits batch text first from all) where
    by-start : (draft : PlainDraft) (number : ℕ) (left : List Fields) → IsPartway first from all draft number left → IsStart limits draft.script.start
        → IsBegun limits batch text draft number left
    by-start draft number left is start =
        let goes = goes-on from first draft is.front begun.good is.read in
        let same : draft_after draft number left ≡ draft_after first from all =
        ap (λ (n : ℕ). draft_after draft n left) is.next ∙ sym (behind-both first from is.front left draft is.read)
        ∙ ap (draft_after first from) (sym is.parts) in
        rw is.next (record {
          start = start;
          within = goes.limits ∙ begun.within;
          good = goes.good;
          tells = λ answer told. begun.tells answer (subst (TellsDraft answer) same (rw is.next told));
        })

    -- where setup rows come too late
    pub begun-on : (draft : PlainDraft) (number : ℕ) (left : List Fields) → first.is_late ≡ true → IsPartway first from all draft number left
        → IsBegun limits batch text draft number left
    begun-on draft number left late is =
        by-start draft number left is
        (subst (IsStart limits) (sym ((goes-on from first draft is.front begun.good is.read).start late)) begun.start)

    begun-told : ((draft : PlainDraft) (number : ℕ) (left : List Fields) → IsPartway first from all draft number left → IsBegun limits batch text draft number left)
        → (result : Result Begun ScriptError) → IfOk result (HasReadSome first from all)
        → IfErr result (λ error. TellsRefusal error (draft_after first from all)) → TellsBegun limits result batch text
    begun-told on (Ok read) is told = on read.reader read.number (left_in read.rows) is
    begun-told on (Err error) is told = begun.tells (Err error) told

    pub told-late : first.is_late ≡ true → (result : Result Begun ScriptError) → IfOk result (HasReadSome first from all)
        → IfErr result (λ error. TellsRefusal error (draft_after first from all)) → TellsBegun limits result batch text
    told-late late = begun-told (λ draft number left. begun-on draft number left late)

  pub told-plain : AreLimits limits → (first : PlainDraft) (all : List Fields) → first ≡ no_rows limits batch → all ≡ rows_of text
      → begins_with_dump all ≡ false → (result : Result Begun ScriptError) → IfOk result (HasReadSome first 1 all)
      → IfErr result (λ error. TellsRefusal error (draft_after first 1 all)) → TellsBegun limits result batch text
  told-plain are first all first_is all_is plain =
      let begun : IsBegun limits batch text first 1 all =
      rw (first_is, all_is) (begun-plain are (subst (λ (rows : List Fields). begins_with_dump rows ≡ false) all_is plain)) in
      begun-told first 1 all begun
      (λ draft number left is. by-start first 1 all begun draft number left is
      (subst (λ (l : Limits). IsStart l draft.script.start) ((goes-on 1 first draft is.front begun.good is.read).limits ∙ begun.within)
      (plain-start limits are batch is.front draft (ap (λ (d : PlainDraft). draft_after d 1 is.front) (sym first_is) ∙ is.read))))

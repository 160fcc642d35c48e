use Rattle.std.proofs.Common.{◌≡◌, ◌∙◌, Result, Err, ap, subst, sym}
use Rattle.std.specs.Prelude.{IfSome}
use Rattle.dex_types.specs.Accounts.{PlainAccounts}
use Rattle.dex_statement.specs.declared.faults.FaultKind.{FaultKind}
use Rattle.dex_statement.specs.declared.faults.RowError.{RowError}
use Rattle.dex_statement.specs.declared.faults.RowError.TheVariants as row_error
use Rattle.dex_script.specs.Drafts.{PlainDraft}
use Rattle.dex_script.specs.Names.{AreNames, IsReading}
use Rattle.dex_script.specs.Rows.{with_statement}
use Rattle.dex_script.specs.Telling.{TellsAdded, draft_of}
use Rattle.dex_script.proofs.KeptLaws.{kept-reading, kept-setup}
use Rattle.dex_script.proofs.reader.Reader.add_setup.Goals as goal

pub invariant_of-drop : goal.invariant_of-drop
invariant_of-drop c =
    let before = draft_of c.before-2.inside.draft in
    let after = draft_of c.add_setup.new.self in
    let kept = (kept-setup 0 before after c.args.statement c.requires (c.in-Ok.ensures 0)).0 in
    (kept-reading before after c.before-2.inside.places.items kept c.before-2.invariant.0, tt)

-- what a fault tells
of-fault : (error : RowError) (kind : FaultKind) (old new : PlainDraft) (meant : Result PlainDraft FaultKind) → error ≡ row_error.Fault kind
    → TellsAdded (Err error) old new meant → (meant ≡ Err kind) × (new ≡ old)
of-fault error kind old new meant is told = subst (λ (e : RowError). TellsAdded (Err e) old new meant) is told

-- after a fault the draft is as it was, and so is what is known of it
pub invariant_of-drop-in-Err-Fault : goal.invariant_of-drop-in-Err-Fault
invariant_of-drop-in-Err-Fault c =
    let before = draft_of c.before-2.inside.draft in
    let told = of-fault c.in-Err-Fault.field-0 c.in-Err-Fault.kind before (draft_of c.add_setup.new.self) (with_statement before 0 c.args.statement) c.in-Err-Fault.field-0-is (c.in-Err-Fault.ensures 0) in
    let same = sym told.1 in (
      subst (λ (draft : PlainDraft). IsReading draft c.before-2.inside.places.items) same c.before-2.invariant.0,
      subst (λ (start : PlainAccounts). IfSome c.before-2.inside.names (λ names. AreNames names start)) (ap (λ (draft : PlainDraft). draft.script.start) same) c.before-2.invariant.1,
    )

pub returns-in-Err-Fault : goal.returns-in-Err-Fault
returns-in-Err-Fault c = λ number.
    let before = draft_of c.before-2.inside.draft in
    let told = of-fault c.in-Err-Fault.field-0 c.in-Err-Fault.kind before (draft_of c.add_setup.new.self) (with_statement before number c.args.statement) c.in-Err-Fault.field-0-is (c.in-Err-Fault.ensures number) in
    let old : before ≡ c.args.self.now = c.before-2.view_is ∙ c.replace-before.ensures.value in
    (ap (λ (draft : PlainDraft). with_statement draft number c.args.statement) (sym old) ∙ told.0, told.1 ∙ old)

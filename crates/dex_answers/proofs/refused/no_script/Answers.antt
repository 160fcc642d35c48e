use Rattle.dex_answers.specs.Answers.{IsNoScript}
use Rattle.dex_answers.specs.declared.status.Status.TheVariants as status
use Rattle.dex_answers.proofs.AnswerLaws.{found-some}
use Rattle.dex_answers.proofs.TextLaws.{says}
use Rattle.dex_answers.proofs.refused.no_script.Goals as goal
use Rattle.dex_refusal_lines.specs.Lines as lines
use Rattle.std.proofs.Common.{refl}

pub returns-in-Audit : goal.returns-in-Audit
returns-in-Audit c limits batch bytes told =
    let found = c.in-Audit.found.items in
    let refused = rw c.in-Audit.is at told in
    let text = rw c.deref.ensures.value at c.audit_failed.ensures in
    says _ (IsNoScript limits batch bytes) status.AuditFailed (lines.audit_failed found) text (found, refused, found-some limits batch bytes found refused, refl)

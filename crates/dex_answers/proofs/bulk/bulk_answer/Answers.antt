use Rattle.std.proofs.Common.{[], All, subst}
use Rattle.dex_types.specs.Accounts.{PlainAccounts}
use Rattle.dex_accounts.specs.Accepted.{IsAccepted}
use Rattle.dex_words.specs.declared.command.Command.TheVariants.{Bulk}
use Rattle.dex_answers.specs.Answers.{Answers}
use Rattle.dex_answers.specs.declared.status.Status.TheVariants as status
use Rattle.dex_answers.proofs.HeardLaws.{summed}
use Rattle.dex_answers.proofs.TextLaws.{says}
use Rattle.dex_answers.proofs.bulk.bulk_answer.Goals as goal

pub summary_text-requires : goal.summary_text-requires
summary_text-requires c =
    let acted = c.in-Ok.ensures.played.plays.acted in
    subst (λ (accounts : PlainAccounts). All IsAccepted accounts.markets) acted.leaves acted.run.accepted.markets

pub returns : goal.returns
returns c =
    let heard = rw (c.deref.ensures.value, c.in_ok-script.ensures) at c.in-Ok.ensures.played in
    says c.of.result (Answers (Bulk c.args.number c.args.rows) []) status.Ok c.in_ok-text.text.items c.of.ensures
    (rw c.in_ok-text.ensures (summed c.args.number c.args.rows c.in-Ok.played heard))

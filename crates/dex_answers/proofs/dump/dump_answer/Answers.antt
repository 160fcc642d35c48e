use Rattle.dex_dump.specs.DumpText.{dump_text}
use Rattle.dex_types.specs.Accounts.{accounts_of}
use Rattle.dex_words.specs.declared.command.Command.TheVariants.{Dump}
use Rattle.dex_answers.specs.Answers.{AnswersWithin}
use Rattle.dex_answers.specs.declared.status.Status.TheVariants as status
use Rattle.dex_answers.proofs.HeardLaws.{dumped}
use Rattle.dex_answers.proofs.TextLaws.{says}
use Rattle.dex_answers.proofs.dump.dump_answer.Goals as goal

pub returns-in-Ok : goal.returns-in-Ok
returns-in-Ok c =
    says c.dump_of.result (AnswersWithin c.args.limits.now Dump c.args.bytes.now) status.Ok (dump_text (accounts_of c.in-Ok.played.accounts)) c.dump_of.ensures
    (dumped _ c.args.limits.now c.args.bytes.now c.in-Ok.played c.in-Ok.ensures.played)

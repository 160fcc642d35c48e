use Rattle.std.proofs.Common.{◌∙◌, ◌++◌, ap}
use Rattle.dex_dump.specs.DumpText.{dump_text}
use Rattle.dex_types.specs.Accounts.{PlainAccounts}
use Rattle.dex_desk.proofs.StepLaws.{said-behind}
use Rattle.dex_desk.proofs.answering.answer_dump.Goals as goal

pub returns-in-Ok : goal.returns-in-Ok
returns-in-Ok c =
    let left = c.in_ok-block.block in
    let mid = c.answer_all.new.buffers.text.items in
    said-behind c.args.block left (dump_text left.draft.script.start) c.args.buffers.now.text.items mid c.append_dump.new.text.items c.in_ok-block.ensures.acted
    (c.in-Ok.ensures.text ∙ ap (λ (accounts : PlainAccounts). mid ++ dump_text accounts) c.start.ensures.accounts)

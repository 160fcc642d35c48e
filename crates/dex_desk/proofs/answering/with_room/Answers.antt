use Rattle.std.proofs.Common.{[]}
use Rattle.std.proofs.lemmas.Result.{IfOk-weaker}
use Rattle.dex_desk.specs.Blocks.{PlainBlock}
use Rattle.dex_desk.specs.Replies.{ActedIn}
use Rattle.dex_desk.specs.Steps.{Went}
use Rattle.dex_desk.proofs.StepLaws.{went-acted}
use Rattle.dex_desk.proofs.answering.with_room.Goals as goal

pub returns-else-len-lt-MOST : goal.returns-else-len-lt-MOST
returns-else-len-lt-MOST c =
    let block = c.args.block in
    let old = c.args.buffers.now.text.items in
    let new = c.answer_all.new.buffers.text.items in
    IfOk-weaker c.answer_all.result (λ (left : PlainBlock). ActedIn block left old new)
    (λ (left : PlainBlock). Went [] block left old new)
    (λ left acted. went-acted block left old new acted)
    c.answer_all.ensures.acted

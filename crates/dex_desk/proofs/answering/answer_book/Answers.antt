use Rattle.dex_desk.specs.Steps.{shown}
use Rattle.dex_desk.proofs.StepLaws.{said-behind}
use Rattle.dex_desk.proofs.answering.answer_book.Goals as goal

pub returns : goal.returns
returns c =
    let block = c.args.block in
    let left = c.in_ok-block.block in
    said-behind block left (shown left c.args.market c.args.depth) c.args.buffers.now.text.items c.answer_all.new.buffers.text.items c.show.new.text.items
    c.in_ok-block.ensures.acted c.in_ok-show.ensures

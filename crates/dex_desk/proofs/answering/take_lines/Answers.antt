use Rattle.dex_desk.specs.Talks.{talk}
use Rattle.dex_desk.specs.Talks.Session.{Serves}
use Rattle.dex_desk.proofs.SessionLaws.{acted-on, line-on}
use Rattle.dex_desk.proofs.TalkLaws.{went-still}
use Rattle.dex_desk.proofs.answering.take_lines.Goals as goal

pub lines-init : goal.lines-init
lines-init c = went-still (talk (Serves c.args.block c.args.inbox.now) c.args.buffers.now.text.items)

pub lines-preserved : goal.lines-preserved
lines-preserved c =
    let text = c.lines.inbox in
    let size = c.in-Some.size in
    line-on (talk (Serves c.args.block c.args.inbox.now) c.args.buffers.now.text.items) c.lines.block c.in_ok-block.block text c.lines.buffers.text.items c.take_line.new.buffers.text.items
    size c.pass.new.self c.lines.invariant c.in-Some.ensures.cut (rw c.bytes.ensures at c.in_ok-block.ensures) c.pass.ensures

pub returns : goal.returns
returns c =
    acted-on c.answer_all.result (talk (Serves c.args.block c.args.inbox.now) c.args.buffers.now.text.items) c.lines.block c.lines.inbox c.lines.buffers.text.items c.answer_all.new.buffers.text.items
    c.lines.invariant c.answer_all.ensures.acted

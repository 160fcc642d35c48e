use Rattle.std.proofs.Common.{length}
use Rattle.dex_desk.specs.Talks.{WentOn, talk}
use Rattle.dex_desk.specs.Talks.Session.{Serves}
use Rattle.dex_desk.proofs.answering.take_lines.Given as goal

abbrev pub invariant-lines : goal.invariant-lines
invariant-lines l = WentOn (talk (Serves l.fn.block l.fn.inbox) l.fn.buffers.text.items) (talk (Serves l.block l.inbox) l.buffers.text.items)

abbrev pub decreases-lines : goal.decreases-lines
decreases-lines l = length l.inbox

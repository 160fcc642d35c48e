use Rattle.std.proofs.Common.{length}
use Rattle.dex_desk.specs.Talks.{WentOn, talk}
use Rattle.dex_desk.specs.Talks.Session.{Sets}
use Rattle.dex_desk.proofs.opening.take_set_ups.Given as goal

abbrev pub invariant-lines : goal.invariant-lines
invariant-lines l = WentOn (talk (Sets l.fn.kept.items l.fn.inbox) l.fn.text.items) (talk (Sets l.kept.items l.inbox) l.text.items)

abbrev pub decreases-lines : goal.decreases-lines
decreases-lines l = length l.inbox

use Rattle.dex_desk.specs.declared.ends.Over.TheVariants as over
use Rattle.dex_desk.specs.Talks.Session.{Ended}
use Rattle.dex_desk.proofs.SessionLaws.{served-cut, served-without}
use Rattle.dex_desk.proofs.serving.serve.Goals as goal

pub returns-in-Ok-say_all-clause-talk : goal.returns-in-Ok-say_all-clause-talk
returns-in-Ok-say_all-clause-talk g c =
    let a = g.D.Desk.turns c.args.desk.now in
    let b = g.D.Desk.turns c.session.new.desk in
    let d = g.D.Desk.turns c.say_all.new.desk in
    let stopped = rw c.in-Err-NoMemory.field-0-is at c.in-Err-NoMemory.ensures.stopped in
    let said = rw c.last_line.ensures at (c.in-Ok-say_all.ensures.said (Ended over.NoMemory)) in
    served-without a b d stopped said

pub returns-in-Err-clause-talk : goal.returns-in-Err-clause-talk
returns-in-Err-clause-talk g c =
    let a = g.D.Desk.turns c.args.desk.now in
    let b = g.D.Desk.turns c.session.new.desk in
    let d = g.D.Desk.turns c.say_all.new.desk in
    let stopped = rw c.in-Err-NoMemory.field-0-is at c.in-Err-NoMemory.ensures.stopped in
    let front = rw c.last_line.ensures at (c.in-Err.ensures.front (Ended over.NoMemory)) in
    served-cut a b d front.0 stopped front.1

use Rattle.std.proofs.Common.{[]}
use Rattle.dex_desk.specs.Talks.{first, talk}
use Rattle.dex_desk.specs.Talks.Session.{Ended, Serves}
use Rattle.dex_desk.proofs.SessionLaws.{rest-for, rest-then, stops-then, talks-then}
use Rattle.dex_desk.proofs.serving.converse.Goals as goal

pub converse_on-requires : goal.converse_on-requires
converse_on-requires g c = (rw c.in-Ok-Open.field-0-is at c.in-Ok-Open.ensures.found).1

pub returns-in-Ok-Open-clause-talk : goal.returns-in-Ok-Open-clause-talk
returns-in-Ok-Open-clause-talk g c =
    let told = rw c.in-Ok-Open.field-0-is at c.in-Ok-Open.ensures.found in
    talks-then c.converse_on.result (g.D.Desk.turns c.args.desk.now) (g.D.Desk.turns c.set_up.new.desk) (g.D.Desk.turns c.converse_on.new.desk) first
    (talk (Serves c.in-Ok-Open.block c.set_up.new.inbox) []) told.0 c.converse_on.ensures.talk

pub returns-in-Ok-Open-clause-stopped : goal.returns-in-Ok-Open-clause-stopped
returns-in-Ok-Open-clause-stopped g c =
    let told = rw c.in-Ok-Open.field-0-is at c.in-Ok-Open.ensures.found in
    stops-then c.converse_on.result (g.D.Desk.turns c.args.desk.now) (g.D.Desk.turns c.set_up.new.desk) (g.D.Desk.turns c.converse_on.new.desk) first
    (talk (Serves c.in-Ok-Open.block c.set_up.new.inbox) []) told.0 c.converse_on.ensures.stopped

pub returns-in-Ok-Over-clause-talk : goal.returns-in-Ok-Over-clause-talk
returns-in-Ok-Over-clause-talk g c =
    let told = rw c.in-Ok-Over.field-0-is at c.in-Ok-Over.ensures.found in
    rest-then c.say_rest.result c.in-Ok-Over.why (g.D.Desk.turns c.args.desk.now) (g.D.Desk.turns c.set_up.new.desk) (g.D.Desk.turns c.say_rest.new.desk) first c.set_up.new.text.items told
    c.say_rest.ensures.said

pub returns-in-Ok-Over-clause-stopped : goal.returns-in-Ok-Over-clause-stopped
returns-in-Ok-Over-clause-stopped g c =
    let told = rw c.in-Ok-Over.field-0-is at c.in-Ok-Over.ensures.found in
    stops-then c.say_rest.result (g.D.Desk.turns c.args.desk.now) (g.D.Desk.turns c.set_up.new.desk) (g.D.Desk.turns c.say_rest.new.desk) first
    (talk (Ended c.in-Ok-Over.why) c.set_up.new.text.items) told c.say_rest.ensures.stopped

pub returns-in-Ok-Over-clause-deaf : goal.returns-in-Ok-Over-clause-deaf
returns-in-Ok-Over-clause-deaf g c =
    let for = rw c.in-Ok-Over.field-0-is at c.in-Ok-Over.ensures.deaf in
    rest-for c.say_rest.result c.in-Ok-Over.why (g.D.Desk.turns c.set_up.new.desk) (g.D.Desk.turns c.say_rest.new.desk) c.set_up.new.text.items
    (g.D.Desk.deaf c.args.desk.now) (g.D.Desk.deaf c.set_up.new.desk) (g.D.Desk.deaf c.say_rest.new.desk) for c.say_rest.ensures.apart c.say_rest.ensures.said

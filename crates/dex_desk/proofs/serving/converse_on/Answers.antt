use Rattle.std.proofs.Common.{[]}
use Rattle.dex_desk.specs.Talks.{talk}
use Rattle.dex_desk.specs.Talks.Session.{Ended, Serves}
use Rattle.dex_desk.proofs.SessionLaws.{rest-for, rest-then, stops-then}
use Rattle.dex_desk.proofs.serving.converse_on.Goals as goal

pub returns-in-Ok-clause-talk : goal.returns-in-Ok-clause-talk
returns-in-Ok-clause-talk g c =
    rest-then c.say_rest.result c.in-Ok.why (g.D.Desk.turns c.args.desk.now) (g.D.Desk.turns c.serve_rows.new.desk) (g.D.Desk.turns c.say_rest.new.desk)
    (talk (Serves c.args.block c.args.inbox.now) []) c.serve_rows.new.buffers.text.items c.in-Ok.ensures.talk c.say_rest.ensures.said

pub returns-in-Ok-clause-stopped : goal.returns-in-Ok-clause-stopped
returns-in-Ok-clause-stopped g c =
    stops-then c.say_rest.result (g.D.Desk.turns c.args.desk.now) (g.D.Desk.turns c.serve_rows.new.desk) (g.D.Desk.turns c.say_rest.new.desk)
    (talk (Serves c.args.block c.args.inbox.now) []) (talk (Ended c.in-Ok.why) c.serve_rows.new.buffers.text.items) c.in-Ok.ensures.talk c.say_rest.ensures.stopped

pub returns-in-Ok-clause-deaf : goal.returns-in-Ok-clause-deaf
returns-in-Ok-clause-deaf g c =
    rest-for c.say_rest.result c.in-Ok.why (g.D.Desk.turns c.serve_rows.new.desk) (g.D.Desk.turns c.say_rest.new.desk) c.serve_rows.new.buffers.text.items
    (g.D.Desk.deaf c.args.desk.now) (g.D.Desk.deaf c.serve_rows.new.desk) (g.D.Desk.deaf c.say_rest.new.desk) c.in-Ok.ensures.deaf c.say_rest.ensures.apart c.say_rest.ensures.said

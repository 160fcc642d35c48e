use Rattle.std.proofs.Common.{[]}
use Rattle.dex_desk.specs.Talks.{talk}
use Rattle.dex_desk.specs.Talks.Session.{Ended, Serves}
use Rattle.dex_desk.proofs.SessionLaws.{stops-on}
use Rattle.dex_desk.proofs.TalkLaws.{later-on, talked-on}
use Rattle.dex_desk.proofs.serving.serve_rows.Goals as goal

pub turns-preserved : goal.turns-preserved
turns-preserved g c =
    let told = rw c.in-Ok-On.field-0-is at c.in-Ok-On.ensures.goes in record {
      talked = talked-on (g.D.Desk.turns c.args.desk.now) (g.D.Desk.turns c.turns.desk) (g.D.Desk.turns c.answer_lines.new.desk) (talk (Serves c.args.block c.args.inbox.now) [])
          (talk (Serves c.turns.block c.turns.inbox) []) (talk (Serves c.in-Ok-On.block c.answer_lines.new.inbox) []) c.turns.invariant.talked told.0;
      quiet = told.1;
      later = later-on _ _ _ _ _ _ c.turns.invariant.later c.in-Ok-On.ensures.later;
    }

pub returns-in-Ok-Over-clause-talk : goal.returns-in-Ok-Over-clause-talk
returns-in-Ok-Over-clause-talk g c =
    let told = rw c.in-Ok-Over.field-0-is at c.in-Ok-Over.ensures.goes in
    talked-on (g.D.Desk.turns c.args.desk.now) (g.D.Desk.turns c.turns.desk) (g.D.Desk.turns c.answer_lines.new.desk) (talk (Serves c.args.block c.args.inbox.now) [])
    (talk (Serves c.turns.block c.turns.inbox) []) (talk (Ended c.in-Ok-Over.why) c.answer_lines.new.buffers.text.items) c.turns.invariant.talked told

pub returns-in-Err-clause-stopped : goal.returns-in-Err-clause-stopped
returns-in-Err-clause-stopped g c =
    stops-on c.in-Err.why (g.D.Desk.turns c.args.desk.now) (g.D.Desk.turns c.turns.desk) (g.D.Desk.turns c.answer_lines.new.desk) (talk (Serves c.args.block c.args.inbox.now) [])
    (talk (Serves c.turns.block c.turns.inbox) []) c.turns.invariant.talked c.in-Err.ensures.stopped

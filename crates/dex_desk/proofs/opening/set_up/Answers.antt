use Rattle.std.proofs.Common.{[]}
use Rattle.dex_desk.specs.Talks.{first, talk}
use Rattle.dex_desk.specs.Talks.Session.{Sets}
use Rattle.dex_desk.proofs.SessionLaws.{found-on, stops-on}
use Rattle.dex_desk.proofs.TalkLaws.{later-on, talked-on}
use Rattle.dex_desk.proofs.opening.set_up.Goals as goal

pub turns-preserved : goal.turns-preserved
turns-preserved g c =
    let told = rw c.in-Ok-None.field-0-is at c.in-Ok-None.ensures.found in record {
      talked = talked-on (g.D.Desk.turns c.args.desk.now) (g.D.Desk.turns c.turns.desk) (g.D.Desk.turns c.hear_set_up.new.desk) first
          (talk (Sets c.turns.kept.items c.turns.inbox) []) (talk (Sets c.hear_set_up.new.kept.items c.hear_set_up.new.inbox) []) c.turns.invariant.talked told.0;
      quiet = told.1;
      later = later-on _ _ _ _ _ _ c.turns.invariant.later c.in-Ok-None.ensures.later;
    }

pub returns-in-Ok-Some-clause-found : goal.returns-in-Ok-Some-clause-found
returns-in-Ok-Some-clause-found g c =
    let told = rw c.in-Ok-Some.field-0-is at c.in-Ok-Some.ensures.found in
    found-on c.in-Ok-Some.found (g.D.Desk.turns c.args.desk.now) (g.D.Desk.turns c.turns.desk) (g.D.Desk.turns c.hear_set_up.new.desk) first
    (talk (Sets c.turns.kept.items c.turns.inbox) []) c.hear_set_up.new.inbox c.hear_set_up.new.text.items c.turns.invariant.talked told

pub returns-in-Err-clause-stopped : goal.returns-in-Err-clause-stopped
returns-in-Err-clause-stopped g c =
    stops-on c.in-Err.why (g.D.Desk.turns c.args.desk.now) (g.D.Desk.turns c.turns.desk) (g.D.Desk.turns c.hear_set_up.new.desk) first
    (talk (Sets c.turns.kept.items c.turns.inbox) []) c.turns.invariant.talked c.in-Err.ensures.stopped

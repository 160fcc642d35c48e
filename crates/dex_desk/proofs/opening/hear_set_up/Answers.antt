use Rattle.std.proofs.Common.{List, [], ℕ, subst}
use Rattle.dex_desk.specs.Serving.{session_of}
use Rattle.dex_desk.specs.Talks.{WentOn, talk}
use Rattle.dex_desk.specs.Talks.Session.{Sets}
use Rattle.dex_desk.proofs.SessionLaws.{clean-here, said-on, stops-on, stops-then, waiting-then}
use Rattle.dex_desk.proofs.TalkLaws.{talked-went}
use Rattle.dex_desk.proofs.opening.hear_set_up.Goals as goal

pub returns-in-Err-clause-stopped : goal.returns-in-Err-clause-stopped
returns-in-Err-clause-stopped g c = clean-here (g.D.Desk.turns c.args.desk.now) (Sets c.args.kept.now.items c.args.inbox.now) tt

pub returns-in-Ok-say_text-clause-found : goal.returns-in-Ok-say_text-clause-found
returns-in-Ok-say_text-clause-found g c =
    let a = g.D.Desk.turns c.args.desk.now in
    let b = g.D.Desk.turns c.say_text.new.desk in
    let x = talk (Sets c.args.kept.now.items c.args.inbox.now) [] in
    let session = session_of c.in-Ok.found c.take_set_ups.new.kept.items c.take_set_ups.new.inbox in
    let text = c.take_set_ups.new.text.items in
    let went : WentOn x (talk session text) =
    subst (λ (l : List ℕ). WentOn (talk (Sets c.args.kept.now.items c.args.inbox.now) l) (talk session text)) c.requires.text c.in-Ok.ensures.0 in
    waiting-then c.go_on.result a b (g.D.Desk.turns c.go_on.new.desk) x (talk session []) c.go_on.new.kept.items c.go_on.new.inbox c.go_on.new.text.items
    (said-on a b x session text went (c.in-Ok-say_text.ensures.said session)) c.go_on.ensures.found

pub returns-in-Ok-say_text-clause-stopped : goal.returns-in-Ok-say_text-clause-stopped
returns-in-Ok-say_text-clause-stopped g c =
    let a = g.D.Desk.turns c.args.desk.now in
    let b = g.D.Desk.turns c.say_text.new.desk in
    let x = talk (Sets c.args.kept.now.items c.args.inbox.now) [] in
    let session = session_of c.in-Ok.found c.take_set_ups.new.kept.items c.take_set_ups.new.inbox in
    let text = c.take_set_ups.new.text.items in
    let went : WentOn x (talk session text) =
    subst (λ (l : List ℕ). WentOn (talk (Sets c.args.kept.now.items c.args.inbox.now) l) (talk session text)) c.requires.text c.in-Ok.ensures.0 in
    stops-then c.go_on.result a b (g.D.Desk.turns c.go_on.new.desk) x (talk session [])
    (said-on a b x session text went (c.in-Ok-say_text.ensures.said session)) c.go_on.ensures.stopped

pub returns-in-Err-say_text-clause-stopped : goal.returns-in-Err-say_text-clause-stopped
returns-in-Err-say_text-clause-stopped g c =
    let a = g.D.Desk.turns c.args.desk.now in
    let b = g.D.Desk.turns c.say_text.new.desk in
    let x = talk (Sets c.args.kept.now.items c.args.inbox.now) [] in
    let session = session_of c.in-Ok.found c.take_set_ups.new.kept.items c.take_set_ups.new.inbox in
    let text = c.take_set_ups.new.text.items in
    let went : WentOn x (talk session text) =
    subst (λ (l : List ℕ). WentOn (talk (Sets c.args.kept.now.items c.args.inbox.now) l) (talk session text)) c.requires.text c.in-Ok.ensures.0 in
    stops-on c.in-Err-say_text.why a a b x (talk session text) (talked-went a x (talk session text) went) (c.in-Err-say_text.ensures.stopped session)

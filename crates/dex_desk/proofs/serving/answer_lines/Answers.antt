use Rattle.std.proofs.Common.{List, [], ℕ, subst}
use Rattle.dex_desk.specs.Talks.{WentOn, talk}
use Rattle.dex_desk.specs.Talks.Session.{Serves}
use Rattle.dex_desk.proofs.SessionLaws.{clean-here, goes-then, said-on, stops-on, stops-then}
use Rattle.dex_desk.proofs.TalkLaws.{talked-went}
use Rattle.dex_desk.proofs.serving.answer_lines.Goals as goal

pub returns-in-Err-clause-stopped : goal.returns-in-Err-clause-stopped
returns-in-Err-clause-stopped g c = clean-here (g.D.Desk.turns c.args.desk.now) (Serves c.args.block c.args.inbox.now) tt

pub returns-in-Ok-say_text-clause-goes : goal.returns-in-Ok-say_text-clause-goes
returns-in-Ok-say_text-clause-goes g c =
    let a = g.D.Desk.turns c.args.desk.now in
    let b = g.D.Desk.turns c.say_text.new.desk in
    let x = talk (Serves c.args.block c.args.inbox.now) [] in
    let session = Serves c.in-Ok.block c.take_lines.new.inbox in
    let text = c.take_lines.new.buffers.text.items in
    let went : WentOn x (talk session text) =
    subst (λ (l : List ℕ). WentOn (talk (Serves c.args.block c.args.inbox.now) l) (talk session text)) c.requires c.in-Ok.ensures in
    goes-then c.go_on.result a b (g.D.Desk.turns c.go_on.new.desk) x (talk session []) c.go_on.new.inbox c.go_on.new.buffers.text.items
    (said-on a b x session text went (c.in-Ok-say_text.ensures.said session)) c.go_on.ensures.goes

pub returns-in-Ok-say_text-clause-stopped : goal.returns-in-Ok-say_text-clause-stopped
returns-in-Ok-say_text-clause-stopped g c =
    let a = g.D.Desk.turns c.args.desk.now in
    let b = g.D.Desk.turns c.say_text.new.desk in
    let x = talk (Serves c.args.block c.args.inbox.now) [] in
    let session = Serves c.in-Ok.block c.take_lines.new.inbox in
    let text = c.take_lines.new.buffers.text.items in
    let went : WentOn x (talk session text) =
    subst (λ (l : List ℕ). WentOn (talk (Serves c.args.block c.args.inbox.now) l) (talk session text)) c.requires c.in-Ok.ensures in
    stops-then c.go_on.result a b (g.D.Desk.turns c.go_on.new.desk) x (talk session [])
    (said-on a b x session text went (c.in-Ok-say_text.ensures.said session)) c.go_on.ensures.stopped

pub returns-in-Err-say_text-clause-stopped : goal.returns-in-Err-say_text-clause-stopped
returns-in-Err-say_text-clause-stopped g c =
    let a = g.D.Desk.turns c.args.desk.now in
    let b = g.D.Desk.turns c.say_text.new.desk in
    let x = talk (Serves c.args.block c.args.inbox.now) [] in
    let session = Serves c.in-Ok.block c.take_lines.new.inbox in
    let text = c.take_lines.new.buffers.text.items in
    let went : WentOn x (talk session text) =
    subst (λ (l : List ℕ). WentOn (talk (Serves c.args.block c.args.inbox.now) l) (talk session text)) c.requires c.in-Ok.ensures in
    stops-on c.in-Err-say_text.why a a b x (talk session text) (talked-went a x (talk session text) went) (c.in-Err-say_text.ensures.stopped session)

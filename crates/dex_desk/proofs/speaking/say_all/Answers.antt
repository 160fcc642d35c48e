use Rattle.std.proofs.Common.{◌≡◌, ◌∙◌, [], List, ℕ, arith, drop, refl, subst, sym}
use Rattle.std.proofs.lemmas.List.{drop_all}
use Rattle.dex_desk.specs.Talks.{Talked, talk}
use Rattle.dex_desk.proofs.TalkLaws.{talked-piece, talked-went, went-still}
use Rattle.dex_desk.proofs.speaking.say_all.Goals as goal

pub loop-sent-init : goal.loop-sent-init
loop-sent-init g c = record {
  within = omega arith;
  said = λ session. talked-went (g.D.Desk.turns c.args.desk.now) (talk session c.args.text.now) (talk session c.args.text.now) (went-still (talk session c.args.text.now));
  later = omega arith;
  apart = refl;
}

pub loop-sent-preserved : goal.loop-sent-preserved
loop-sent-preserved g c =
    let text = c.args.text.now in
    let sent = c.loop-sent.sent in record {
      within = omega (arith, c.in-Ok.ensures.within, c.split_at.ensures.back_len);
      said = λ session. talked-piece (g.D.Desk.turns c.args.desk.now) (g.D.Desk.turns c.loop-sent.desk) (g.D.Desk.turns c.say.new.self) session text sent c.in-Ok.count
          (c.loop-sent.invariant.said session) (rw c.split_at.ensures.back at c.in-Ok.ensures.said);
      later = omega (arith, c.loop-sent.invariant.later, c.in-Ok.ensures.later);
      apart = c.in-Ok.ensures.apart ∙ c.loop-sent.invariant.apart;
    }

pub returns-in-Err-clause-front : goal.returns-in-Err-clause-front
returns-in-Err-clause-front g c = λ session.
    let text = c.args.text.now in
    let left = drop c.loop-sent.sent text in (
      left,
      subst (λ t. Talked (g.D.Desk.turns c.args.desk.now) t (talk session text) (talk session left)) (sym c.in-Err.ensures.unchanged) (c.loop-sent.invariant.said session),
    )

pub returns-clause-said : goal.returns-clause-said
returns-clause-said g c = λ session.
    let text = c.args.text.now in
    let none : drop c.loop-sent.sent text ≡ [] = drop_all c.loop-sent.sent text (omega (arith, c.loop-sent-test.false)) in
    subst (λ (l : List ℕ). Talked (g.D.Desk.turns c.args.desk.now) (g.D.Desk.turns c.loop-sent.desk) (talk session text) (talk session l)) none (c.loop-sent.invariant.said session)

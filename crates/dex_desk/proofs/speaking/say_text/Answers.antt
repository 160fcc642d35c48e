use Rattle.std.proofs.Common.{List, ℕ, subst}
use Rattle.dex_desk.specs.Talks.{Talked, talk}
use Rattle.dex_desk.proofs.speaking.say_text.Goals as goal

pub returns-in-Err-clause-stopped : goal.returns-in-Err-clause-stopped
returns-in-Err-clause-stopped g c = λ session.
    let front = c.in-Err.ensures.front session in
    let here = subst (λ (l : List ℕ). Talked (g.D.Desk.turns c.args.desk.now) (g.D.Desk.turns c.say_all.new.desk) (talk session l) (talk session front.0)) c.deref.ensures.value front.1 in
    (talk session front.0, here, tt)

use Rattle.std.proofs.Common.{◌<◌, ◌≤◌, ◌++◌, [], List, ℕ, ap, arith, length, length-append, refl, subst, sym}
use Rattle.dex_types.specs.declared.limits.TheConstants.{WIDE}
use Rattle.dex_desk.specs.declared.ends.Over.TheVariants as over
use Rattle.dex_desk.specs.Talks.{Talked, last_line, talk}
use Rattle.dex_desk.specs.Talks.Session.{Ended, Sets}
use Rattle.dex_desk.proofs.SessionLaws.{clean-here, clean-same, more-of-set-up, over-stops, over-told, set-up-ended, set-up-stops, vain-set-up}
use Rattle.dex_desk.proofs.TalkLaws.{talked-same, talked-went}
use Rattle.dex_desk.proofs.opening.listen.Goals as goal

pub returns-then-saturating_add-clause-found : goal.returns-then-saturating_add-clause-found
returns-then-saturating_add-clause-found g c =
    let turns = g.D.Desk.turns c.args.desk.now in
    let kept = c.args.kept.now.items in
    let inbox = c.args.inbox.now in
    let long : WIDE.bytes < length (kept ++ inbox) =
    omega (arith, length-append kept inbox, c.saturating_add.ensures, c.len.ensures, c.len-2.ensures, ap length c.close_up.ensures, c.if-saturating_add.true) in
    over-told c.over.result over.TooLong c.args.text.now.items c.over.new.text.items turns turns (talk (Sets kept inbox) []) kept _ c.over.ensures c.requires.text
    (talked-went turns (talk (Sets kept inbox) []) (talk (Ended over.TooLong) (last_line over.TooLong))
    (set-up-stops over.TooLong kept inbox (c.requires.listening, long, refl)))

pub returns-then-saturating_add-clause-stopped : goal.returns-then-saturating_add-clause-stopped
returns-then-saturating_add-clause-stopped g c =
    let turns = g.D.Desk.turns c.args.desk.now in
    let session = Sets c.args.kept.now.items c.args.inbox.now in
    over-stops c.over.result over.TooLong c.args.text.now.items c.over.new.text.items turns turns (talk session []) c.over.ensures (clean-here turns session tt)

pub returns-in-Ok-More-clause-found : goal.returns-in-Ok-More-clause-found
returns-in-Ok-More-clause-found g c =
    let few : length (c.args.kept.now.items ++ c.args.inbox.now) ≤ WIDE.bytes =
    omega (arith, length-append c.args.kept.now.items c.args.inbox.now, c.saturating_add.ensures, c.len.ensures, c.len-2.ensures, ap length c.close_up.ensures, c.if-saturating_add.false) in
    let told = rw c.in-Ok-More.field-0-is at c.in-Ok-More.ensures.heard in (
      more-of-set-up (g.D.Desk.turns c.args.desk.now) (g.D.Desk.turns c.hear_more.new.desk) c.args.kept.now.items c.close_up.new.self c.args.inbox.now c.hear_more.new.inbox told
          c.close_up.ensures c.requires.listening few,
      c.requires.text,
    )

pub returns-in-Ok-Ended-clause-found : goal.returns-in-Ok-Ended-clause-found
returns-in-Ok-Ended-clause-found g c =
    let few : length (c.args.kept.now.items ++ c.args.inbox.now) ≤ WIDE.bytes =
    omega (arith, length-append c.args.kept.now.items c.args.inbox.now, c.saturating_add.ensures, c.len.ensures, c.len-2.ensures, ap length c.close_up.ensures, c.if-saturating_add.false) in
    let a = g.D.Desk.turns c.args.desk.now in
    let b = g.D.Desk.turns c.hear_more.new.desk in
    let kept = c.args.kept.now.items in
    let inbox = c.args.inbox.now in
    let told = rw c.in-Ok-Ended.field-0-is at c.in-Ok-Ended.ensures.heard in
    subst (λ (l : List ℕ). Talked a b (talk (Sets kept inbox) []) (talk (Ended over.Input) l)) (sym c.requires.text)
    (set-up-ended a b kept c.close_up.new.self inbox c.hear_more.new.inbox told c.requires.listening few)

pub returns-in-Ok-Failed-clause-found : goal.returns-in-Ok-Failed-clause-found
returns-in-Ok-Failed-clause-found g c =
    let a = g.D.Desk.turns c.args.desk.now in
    let b = g.D.Desk.turns c.hear_more.new.desk in
    let kept = c.args.kept.now.items in
    let inbox = c.args.inbox.now in
    let told = rw c.in-Ok-Failed.field-0-is at c.in-Ok-Failed.ensures.heard in
    over-told c.over-in-Ok-Failed.result over.ReadFault c.args.text.now.items c.over-in-Ok-Failed.new.text.items a b (talk (Sets kept inbox) []) kept _ c.over-in-Ok-Failed.ensures c.requires.text
    (talked-same a b (talk (Sets kept inbox) []) (talk (Ended over.ReadFault) (last_line over.ReadFault)) told.0
    (set-up-stops over.ReadFault kept inbox (c.requires.listening, refl)))

pub returns-in-Ok-Failed-clause-stopped : goal.returns-in-Ok-Failed-clause-stopped
returns-in-Ok-Failed-clause-stopped g c =
    let a = g.D.Desk.turns c.args.desk.now in
    let b = g.D.Desk.turns c.hear_more.new.desk in
    let session = Sets c.args.kept.now.items c.args.inbox.now in
    let told = rw c.in-Ok-Failed.field-0-is at c.in-Ok-Failed.ensures.heard in
    over-stops c.over-in-Ok-Failed.result over.ReadFault c.args.text.now.items c.over-in-Ok-Failed.new.text.items a b (talk session []) c.over-in-Ok-Failed.ensures (clean-same a b session told.0 tt)

pub returns-in-Err-clause-stopped : goal.returns-in-Err-clause-stopped
returns-in-Err-clause-stopped g c =
    let few : length (c.args.kept.now.items ++ c.args.inbox.now) ≤ WIDE.bytes =
    omega (arith, length-append c.args.kept.now.items c.args.inbox.now, c.saturating_add.ensures, c.len.ensures, c.len-2.ensures, ap length c.close_up.ensures, c.if-saturating_add.false) in
    vain-set-up (g.D.Desk.turns c.args.desk.now) (g.D.Desk.turns c.hear_more.new.desk) c.args.kept.now.items c.args.inbox.now c.in-Err.ensures.vain c.requires.listening few

use Rattle.std.proofs.Common.{◌≡◌, ◌<◌, ◌≤◌, ◌∙◌, [], List, ℕ, ap, arith, length, subst}
use Rattle.dex_types.specs.declared.limits.TheConstants.{STANDARD}
use Rattle.dex_desk.specs.declared.ends.Over.TheVariants as over
use Rattle.dex_desk.specs.Talks.{talk}
use Rattle.dex_desk.specs.Talks.Session.{Serves}
use Rattle.dex_desk.specs.Serving.{TellsClosed}
use Rattle.dex_desk.proofs.SessionLaws.{clean-here, clean-same, closed-goes, closed-stops, cut-goes, cut-stops, more-of-rows, rows-ended, vain-rows}
use Rattle.dex_desk.proofs.TalkLaws.{talked-same, talked-went, went-still}
use Rattle.dex_desk.proofs.serving.listen.Goals as goal

pub returns-then-len-clause-goes : goal.returns-then-len-clause-goes
returns-then-len-clause-goes g c =
    let turns = g.D.Desk.turns c.args.desk.now in
    let block = c.args.block in
    let inbox = c.args.inbox.now in
    let long : STANDARD.bytes < length inbox = omega (arith, c.len.ensures, ap length c.close_up.ensures, c.if-len.true) in
    cut-goes c.cut_off.result over.TooLong block inbox c.args.buffers.now.text.items c.cut_off.new.buffers.text.items _ turns turns (talk (Serves block inbox) []) c.cut_off.ensures c.requires.text
    (λ said leaves. (c.requires.listening, long, leaves)) (talked-went turns (talk (Serves block inbox) []) (talk (Serves block inbox) []) (went-still (talk (Serves block inbox) [])))

pub returns-then-len-clause-stopped : goal.returns-then-len-clause-stopped
returns-then-len-clause-stopped g c =
    let turns = g.D.Desk.turns c.args.desk.now in
    let session = Serves c.args.block c.args.inbox.now in
    cut-stops c.cut_off.result over.TooLong c.args.block c.args.buffers.now.text.items c.cut_off.new.buffers.text.items turns turns (talk session []) c.cut_off.ensures (clean-here turns session tt)

pub returns-in-Ok-More-clause-goes : goal.returns-in-Ok-More-clause-goes
returns-in-Ok-More-clause-goes g c =
    let few : length c.args.inbox.now ≤ STANDARD.bytes = omega (arith, c.len.ensures, ap length c.close_up.ensures, c.if-len.false) in
    let told = rw c.in-Ok-More.field-0-is at c.in-Ok-More.ensures.heard in (
      more-of-rows (g.D.Desk.turns c.args.desk.now) (g.D.Desk.turns c.hear_more.new.desk) c.args.block c.close_up.new.self c.args.inbox.now c.hear_more.new.inbox told
          c.close_up.ensures c.requires.listening few,
      c.requires.text,
    )

pub returns-in-Ok-Ended-clause-goes : goal.returns-in-Ok-Ended-clause-goes
returns-in-Ok-Ended-clause-goes g c =
    let few : length c.args.inbox.now ≤ STANDARD.bytes = omega (arith, c.len.ensures, ap length c.close_up.ensures, c.if-len.false) in
    let a = g.D.Desk.turns c.args.desk.now in
    let b = g.D.Desk.turns c.hear_more.new.desk in
    let block = c.args.block in
    let inbox = c.args.inbox.now in
    let told = rw c.in-Ok-Ended.field-0-is at c.in-Ok-Ended.ensures.heard in
    let line : c.bytes.result.now ≡ inbox = c.bytes.ensures ∙ told.1 ∙ c.close_up.ensures in
    let closed = subst (λ (l : List ℕ). TellsClosed c.close.result block l c.args.buffers.now.text.items c.close.new.buffers.text.items) line c.close.ensures in
    closed-goes c.close.result block inbox c.args.buffers.now.text.items c.close.new.buffers.text.items _ a b (talk (Serves block inbox) []) closed c.requires.text
    (rows-ended a b block c.close_up.new.self inbox c.hear_more.new.inbox told c.requires.listening few)

pub returns-in-Ok-Ended-clause-stopped : goal.returns-in-Ok-Ended-clause-stopped
returns-in-Ok-Ended-clause-stopped g c =
    let few : length c.args.inbox.now ≤ STANDARD.bytes = omega (arith, c.len.ensures, ap length c.close_up.ensures, c.if-len.false) in
    let a = g.D.Desk.turns c.args.desk.now in
    let b = g.D.Desk.turns c.hear_more.new.desk in
    let block = c.args.block in
    let inbox = c.args.inbox.now in
    let told = rw c.in-Ok-Ended.field-0-is at c.in-Ok-Ended.ensures.heard in
    let line : c.bytes.result.now ≡ inbox = c.bytes.ensures ∙ told.1 ∙ c.close_up.ensures in
    let closed = subst (λ (l : List ℕ). TellsClosed c.close.result block l c.args.buffers.now.text.items c.close.new.buffers.text.items) line c.close.ensures in
    closed-stops c.close.result block inbox c.args.buffers.now.text.items c.close.new.buffers.text.items a b (talk (Serves block inbox) []) closed
    (rows-ended a b block c.close_up.new.self inbox c.hear_more.new.inbox told c.requires.listening few)

pub returns-in-Ok-Failed-clause-goes : goal.returns-in-Ok-Failed-clause-goes
returns-in-Ok-Failed-clause-goes g c =
    let a = g.D.Desk.turns c.args.desk.now in
    let b = g.D.Desk.turns c.hear_more.new.desk in
    let block = c.args.block in
    let inbox = c.args.inbox.now in
    let told = rw c.in-Ok-Failed.field-0-is at c.in-Ok-Failed.ensures.heard in
    cut-goes c.cut_off-in-Ok-Failed.result over.ReadFault block inbox c.args.buffers.now.text.items c.cut_off-in-Ok-Failed.new.buffers.text.items _ a b (talk (Serves block inbox) [])
    c.cut_off-in-Ok-Failed.ensures c.requires.text (λ said leaves. (c.requires.listening, leaves))
    (talked-same a b (talk (Serves block inbox) []) (talk (Serves block inbox) []) told.0 (went-still (talk (Serves block inbox) [])))

pub returns-in-Ok-Failed-clause-stopped : goal.returns-in-Ok-Failed-clause-stopped
returns-in-Ok-Failed-clause-stopped g c =
    let a = g.D.Desk.turns c.args.desk.now in
    let b = g.D.Desk.turns c.hear_more.new.desk in
    let session = Serves c.args.block c.args.inbox.now in
    let told = rw c.in-Ok-Failed.field-0-is at c.in-Ok-Failed.ensures.heard in
    cut-stops c.cut_off-in-Ok-Failed.result over.ReadFault c.args.block c.args.buffers.now.text.items c.cut_off-in-Ok-Failed.new.buffers.text.items a b (talk session [])
    c.cut_off-in-Ok-Failed.ensures (clean-same a b session told.0 tt)

pub returns-in-Err-clause-stopped : goal.returns-in-Err-clause-stopped
returns-in-Err-clause-stopped g c =
    let few : length c.args.inbox.now ≤ STANDARD.bytes = omega (arith, c.len.ensures, ap length c.close_up.ensures, c.if-len.false) in
    vain-rows (g.D.Desk.turns c.args.desk.now) (g.D.Desk.turns c.hear_more.new.desk) c.args.block c.args.inbox.now c.in-Err.ensures.vain c.requires.listening few

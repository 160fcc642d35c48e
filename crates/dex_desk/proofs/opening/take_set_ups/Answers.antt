use Rattle.std.proofs.Common.{◌∙◌, sym}
use Rattle.dex_desk.specs.Talks.{talk}
use Rattle.dex_desk.specs.Talks.Session.{Sets}
use Rattle.dex_desk.proofs.SessionLaws.{found-waiting, none-found, set-up-line-on}
use Rattle.dex_desk.proofs.TalkLaws.{went-still}
use Rattle.dex_desk.proofs.opening.take_set_ups.Goals as goal

pub lines-init : goal.lines-init
lines-init c = went-still (talk (Sets c.args.kept.now.items c.args.inbox.now) c.args.text.now.items)

pub returns-then-is_some : goal.returns-then-is_some
returns-then-is_some c =
    let first = talk (Sets c.args.kept.now.items c.args.inbox.now) c.args.text.now.items in
    let before = talk (Sets c.lines.kept.items c.lines.inbox) c.lines.text.items in (
      set-up-line-on c.in_ok-found.found first before c.take_set_up_line.new.kept.items c.take_set_up_line.new.inbox c.take_set_up_line.new.text.items c.lines.invariant c.in_ok-found.ensures.done,
      found-waiting c.in_ok-found.found c.take_set_up_line.new.inbox (sym c.is_some.ensures ∙ c.if-is_some.true),
    )

pub lines-preserved : goal.lines-preserved
lines-preserved c =
    let first = talk (Sets c.args.kept.now.items c.args.inbox.now) c.args.text.now.items in
    let before = talk (Sets c.lines.kept.items c.lines.inbox) c.lines.text.items in
    none-found c.in_ok-found.found first c.take_set_up_line.new.kept.items c.take_set_up_line.new.inbox c.take_set_up_line.new.text.items (sym c.is_some.ensures ∙ c.if-is_some.false)
    (set-up-line-on c.in_ok-found.found first before c.take_set_up_line.new.kept.items c.take_set_up_line.new.inbox c.take_set_up_line.new.text.items c.lines.invariant c.in_ok-found.ensures.done)

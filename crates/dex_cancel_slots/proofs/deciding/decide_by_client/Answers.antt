use Rattle.std.proofs.Common.{rules, ◌≡◌, false, true, sym, ◌∙◌}
use Rattle.std.specs.Option.{is_some}
use Rattle.dex_types.specs.Cancel.{all_orders_of, oldest}
use Rattle.dex_cancel_slots.proofs.AnswerLaws.{any-client}
use Rattle.dex_cancel_slots.proofs.deciding.decide_by_client.Goals as goal

pub returns-then-has_more : goal.returns-then-has_more
returns-then-has_more g c =
    let own = all_orders_of c.args.own.now.account (g.B.SideRead.orders c.args.own.now.bids.now) (g.A.SideRead.orders c.args.own.now.asks.now) in
    let any : is_some (oldest c.args.client own) ≡ true = sym (any-client c.args.client own) ∙ sym c.has_more.ensures ∙ c.if-has_more.true in
    search (rules, any)

pub returns-else-has_more : goal.returns-else-has_more
returns-else-has_more g c =
    let own = all_orders_of c.args.own.now.account (g.B.SideRead.orders c.args.own.now.bids.now) (g.A.SideRead.orders c.args.own.now.asks.now) in
    let none : is_some (oldest c.args.client own) ≡ false = sym (any-client c.args.client own) ∙ sym c.has_more.ensures ∙ c.if-has_more.false in
    search (rules, none)

use Rattle.dex_match.proofs.TradeLaws.{can-leave}
use Rattle.dex_match.proofs.trading.rest_or_end.Goals as goal

pub push_last-requires-clause-gone : goal.push_last-requires-clause-gone
push_last-requires-clause-gone g c =
    can-leave c.args.side (g.B.SideRead.side c.args.own.now) c.args.sizes (g.B.SideRead.room c.args.own.now) c.args.order (g.B.SideRead.orders c.args.own.now) c.post-booted.result
    (g.met.B.SideRead.is_book_side c.args.own.now c.requires.holds).can_rest c.requires.posts.locks c.post-booted.ensures.booted

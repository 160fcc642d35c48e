use Rattle.std.proofs.Common.{sym, subst}
use Rattle.dex_types.specs.BookSide.{IsBookSide}
use Rattle.dex_laws.proofs.BookSideLaws.{IsBookSide-with_lots}
use Rattle.dex_book.specs.ListSide.{IsListed}
use Rattle.dex_book.proofs.list_side.ListSideSideBook.set_lots.Goals as goal

pub returns-clause-holds : goal.returns-clause-holds
returns-clause-holds c =
    let held : IsBookSide c.self.inside.side c.self.inside.capacity c.self.inside.orders.items = subst IsListed (sym c.self.view_is) c.requires.holds in
    let written = c.resting_place-place.ensures.with c.args.lots c.index_mut.result.now in
    let items = c.deref.ensures.value in
    let order = c.index_mut.ensures.value in
    subst (IsBookSide c.self.inside.side c.self.inside.capacity) (cc)
    (IsBookSide-with_lots c.self.inside.side c.self.inside.capacity c.args.id c.args.lots c.self.inside.orders.items c.requires.lots held)

use Rattle.std.proofs.Common.{◌≡◌, sym, subst}
use Rattle.dex_types.specs.BookSide.{IsBookSide}
use Rattle.dex_types.specs.Cancel.{without_order}
use Rattle.dex_laws.proofs.BookSideLaws.{IsBookSide-without_order}
use Rattle.dex_book.specs.ListSide.{IsListed}
use Rattle.dex_book.proofs.list_side.ListSideSideBook.remove.Goals as goal

pub returns-clause-holds : goal.returns-clause-holds
returns-clause-holds c =
    let held : IsBookSide c.self.inside.side c.self.inside.capacity c.self.inside.orders.items = subst IsListed (sym c.self.view_is) c.requires.holds in
    let left : c.remove.new.self.items ≡ without_order c.args.id c.self.inside.orders.items = cc in
    rw left (IsBookSide-without_order c.self.inside.side c.self.inside.capacity c.args.id c.self.inside.orders.items held)

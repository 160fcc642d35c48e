use Rattle.std.proofs.Common.{◌≡◌, ◌<◌, length, sym, ◌∙◌, subst, ap}
use Rattle.std.specs.List.{insert}
use Rattle.dex_types.specs.BookSide.{IsBookSide, IsNewId}
use Rattle.dex_types.specs.Posting.{posted}
use Rattle.dex_laws.proofs.BookSideLaws.{IsBookSide-posted}
use Rattle.dex_laws.proofs.PostLaws.{posted-insert}
use Rattle.dex_laws.specs.Posted.{place_of}
use Rattle.dex_book.specs.ListSide.{ListedSide, IsListed}
use Rattle.dex_book.proofs.list_side.ListSideSideBook.insert.Goals as goal

-- the orders afterwards, over the fields
put : (c : goal.After-unwrap) → c.insert.new.self.items ≡ posted c.self.inside.side c.args.order c.self.inside.orders.items
put c =
    let there = posted-insert c.self.inside.side c.args.order c.self.inside.orders.items in
    let items : c.insert.new.self.items ≡ insert c.self.inside.orders.items c.place_in_book-place.result c.args.order = rw c.unwrap.ensures at c.insert.ensures.items in
    let place : c.place_in_book-place.result ≡ place_of c.self.inside.side c.args.order.id c.self.inside.orders.items = rw c.deref.ensures.value at c.place_in_book-place.ensures.place in
    items ∙ ap (λ at. insert c.self.inside.orders.items at c.args.order) place ∙ sym there

pub returns-clause-orders : goal.returns-clause-orders
returns-clause-orders c = rw (← c.self.view_is) (put c)

pub returns-clause-holds : goal.returns-clause-holds
returns-clause-holds c =
    let held : IsBookSide c.self.inside.side c.self.inside.capacity c.self.inside.orders.items = subst IsListed (sym c.self.view_is) c.requires.holds in
    let new : IsNewId c.args.order.id c.self.inside.orders.items = subst (λ (s : ListedSide). IsNewId c.args.order.id s.orders) (sym c.self.view_is) c.requires.new in
    let room : length c.self.inside.orders.items < c.self.inside.capacity = subst (λ (s : ListedSide). length s.orders < s.room) (sym c.self.view_is) c.requires.room in
    rw (put c) (IsBookSide-posted c.self.inside.side c.self.inside.capacity c.args.order c.self.inside.orders.items new c.requires.can_rest room held)

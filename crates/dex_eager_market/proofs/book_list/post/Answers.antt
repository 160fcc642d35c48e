use Rattle.std.proofs.Common.{◌≡◌, arith}
use Rattle.std.specs.List.{insert}
use Rattle.dex_laws.specs.Posted.{place_of}
use Rattle.dex_eager_market.proofs.Lists.{posts}
use Rattle.dex_eager_market.proofs.book_list.post.Goals as goal

pub returns-clause-orders : goal.returns-clause-orders
returns-clause-orders c =
    let made = c.make_room.new.orders.items in
    let items : c.insert.new.self.items ≡ insert made c.posting_place-place.result c.args.order = rw c.unwrap.ensures at c.insert.ensures.items in
    let place : c.posting_place-place.result ≡ place_of c.args.side c.args.order.id made = rw c.deref.ensures.value at c.posting_place-place.ensures.place in
    posts c.args.side c.args.room c.args.order c.args.orders.now.items made c.insert.new.self.items c.posting_place-place.result (omega arith) c.requires.room c.requires.within
    c.make_room.ensures.orders place items

use Rattle.dex_book.proofs.PlaceLaws.{order_with-place}
use Rattle.dex_book.proofs.places.order_with.Goals as goal

pub returns : goal.returns
returns c =
    let found = order_with-place c.args.side c.args.id c.args.orders.now c.requires in
    let place = c.place_in_book-place.ensures.place in
    let order = c.order_at.ensures in
    let with = c.with_id.ensures in cc

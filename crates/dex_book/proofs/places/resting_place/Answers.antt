use Rattle.dex_book.proofs.PlaceLaws.{IsPlace-place_of}
use Rattle.dex_book.proofs.places.resting_place.Goals as goal

pub returns : goal.returns
returns c =
    rw c.place_in_book.ensures.place (IsPlace-place_of c.args.side c.args.id c.args.orders.now c.requires.sorted c.requires.rests)

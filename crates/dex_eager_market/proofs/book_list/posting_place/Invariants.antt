use Rattle.std.proofs.Common.{◌≡◌, ◌+◌, drop}
use Rattle.dex_laws.specs.Posted.{place_of}
use Rattle.dex_eager_market.proofs.book_list.posting_place.Given as goal

abbrev pub invariant-loop-place : goal.invariant-loop-place
invariant-loop-place l = place_of l.side l.id l.orders ≡ l.place + place_of l.side l.id (drop l.place l.orders)

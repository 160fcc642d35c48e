use Rattle.dex_laws.proofs.BookSideLaws.{last_of-slice_get}
use Rattle.dex_book.proofs.list_side.ListSideSideRead.worst.Goals as goal

pub returns : goal.returns
returns c =
    let last = last_of-slice_get c.deref.result.now in
    let orders = c.deref.ensures.value in
    let value = c.last.ensures.value in
    rw (← c.self.view_is, ← orders) cc

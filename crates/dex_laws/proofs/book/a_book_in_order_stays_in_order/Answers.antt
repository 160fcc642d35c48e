use Rattle.dex_laws.proofs.BookLaws.{IsBookInOrder-after_order}
use Rattle.dex_laws.proofs.book.a_book_in_order_stays_in_order.Goals as goal

pub returns : goal.returns
returns c = IsBookInOrder-after_order

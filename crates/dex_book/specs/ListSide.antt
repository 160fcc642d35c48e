-- A list side as its callers see it.
use Rattle.std.specs.Prelude.{ℕ, List}
use Rattle.dex_types.specs.declared.orders.Order.{Order}
use Rattle.dex_types.specs.declared.terms.Side.{Side}
use Rattle.dex_types.specs.BookSide.{IsBookSide}

-- a side of the book: which one, how many orders it has room for, and its resting orders in book order
pub record ListedSide : Type 0 where
  pub side : Side
  pub room : ℕ
  pub orders : List Order

-- it is a side of the book
abbrev pub IsListed : ListedSide → Type 0
IsListed s = IsBookSide s.side s.room s.orders

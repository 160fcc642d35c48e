use Rattle.std.proofs.Common.{◌∙◌, refl, sym, subst}
use Rattle.std.specs.List.{All}
use Rattle.dex_types.specs.Side.{opposite}
use Rattle.dex_eager_market.specs.Foreseen.{CanFill}
use Rattle.dex_eager_market.proofs.Trades.{book-left}
use Rattle.dex_eager_market.proofs.trading.meet_book.Goals as goal

pub pay_makers-requires-clause-orders : goal.pay_makers-requires-clause-orders
pay_makers-requires-clause-orders c = subst (All (CanFill (opposite c.args.side) c.args.taker.sizes)) (sym c.deref.ensures.value) c.requires.book.can_fill

pub returns-clause-left : goal.returns-clause-left
returns-clause-left c = c.take_front.ensures.left ∙ c.requires.foreseen.left

pub returns-clause-book : goal.returns-clause-book
returns-clause-book c =
    book-left (opposite c.args.side) c.args.taker.sizes c.args.opposing.now (record c.args.opposing.now { orders = c.take_front.new.orders })
    c.args.foreseen.now.gone c.args.foreseen.now.part c.requires.book refl c.take_front.ensures.capacity c.take_front.ensures.left

pub returns-clause-worths : goal.returns-clause-worths
returns-clause-worths c = rw c.deref.ensures.value at c.pay_makers.ensures.worths

use Rattle.std.proofs.Common.{refl, sym, ap, ◌∙◌, arith}
use Rattle.std.specs.Option.{is_some}
use Rattle.dex_laws.proofs.BookSideLaws.{GivesWay, gives-way, last_of-some}
use Rattle.dex_fills.proofs.side_posting.post_or_boot.Goals as goal

pub returns-in_err-last-clause-orders : goal.returns-in_err-last-clause-orders
returns-in_err-last-clause-orders g c =
    absurd (last_of-some (g.B.SideRead.orders c.args.book.now) (omega (arith, c.count.ensures, c.capacity.ensures)) (sym c.worst.ensures ∙ c.in_err-last.was))

pub returns-in_err-last-clause-full : goal.returns-in_err-last-clause-full
returns-in_err-last-clause-full g c =
    absurd (last_of-some (g.B.SideRead.orders c.args.book.now) (omega (arith, c.count.ensures, c.capacity.ensures)) (sym c.worst.ensures ∙ c.in_err-last.was))

pub remove-booted-requires-clause-rests : goal.remove-booted-requires-clause-rests
remove-booted-requires-clause-rests g c =
    let way : GivesWay (g.B.SideRead.side c.args.book.now) (g.B.SideRead.room c.args.book.now) c.args.order (g.B.SideRead.orders c.args.book.now) c.in_ok-last.last =
    gives-way _ _ _ _ _ (g.met.B.SideRead.is_book_side c.args.book.now c.requires.holds) c.requires.new c.requires.can_rest.lots
    (omega (arith, c.count.ensures, c.capacity.ensures)) (sym c.in_ok-last.ensures) in
    ap is_some way.found

pub insert-requires-2-clause-new : goal.insert-requires-2-clause-new
insert-requires-2-clause-new g c =
    let way : GivesWay (g.B.SideRead.side c.args.book.now) (g.B.SideRead.room c.args.book.now) c.args.order (g.B.SideRead.orders c.args.book.now) c.in_ok-last.last =
    gives-way _ _ _ _ _ (g.met.B.SideRead.is_book_side c.args.book.now c.requires.holds) c.requires.new c.requires.can_rest.lots
    (omega (arith, c.count.ensures, c.capacity.ensures)) (sym c.in_ok-last.ensures) in
    rw c.remove-booted.ensures.orders way.new

pub insert-requires-2-clause-room : goal.insert-requires-2-clause-room
insert-requires-2-clause-room g c =
    let way : GivesWay (g.B.SideRead.side c.args.book.now) (g.B.SideRead.room c.args.book.now) c.args.order (g.B.SideRead.orders c.args.book.now) c.in_ok-last.last =
    gives-way _ _ _ _ _ (g.met.B.SideRead.is_book_side c.args.book.now c.requires.holds) c.requires.new c.requires.can_rest.lots
    (omega (arith, c.count.ensures, c.capacity.ensures)) (sym c.in_ok-last.ensures) in
    rw (c.remove-booted.ensures.orders, c.remove-booted.ensures.room) way.space

pub returns-clause-orders : goal.returns-clause-orders
returns-clause-orders g c =
    let way : GivesWay (g.B.SideRead.side c.args.book.now) (g.B.SideRead.room c.args.book.now) c.args.order (g.B.SideRead.orders c.args.book.now) c.in_ok-last.last =
    gives-way _ _ _ _ _ (g.met.B.SideRead.is_book_side c.args.book.now c.requires.holds) c.requires.new c.requires.can_rest.lots
    (omega (arith, c.count.ensures, c.capacity.ensures)) (sym c.in_ok-last.ensures) in
    rw way.posting (c.insert-2.ensures.orders ∙ rw (c.remove-booted.ensures.orders, c.remove-booted.ensures.side) refl)

pub returns-clause-booted : goal.returns-clause-booted
returns-clause-booted g c =
    let way : GivesWay (g.B.SideRead.side c.args.book.now) (g.B.SideRead.room c.args.book.now) c.args.order (g.B.SideRead.orders c.args.book.now) c.in_ok-last.last =
    gives-way _ _ _ _ _ (g.met.B.SideRead.is_book_side c.args.book.now c.requires.holds) c.requires.new c.requires.can_rest.lots
    (omega (arith, c.count.ensures, c.capacity.ensures)) (sym c.in_ok-last.ensures) in
    rw way.posting (sym c.remove-booted.ensures.order ∙ way.found)

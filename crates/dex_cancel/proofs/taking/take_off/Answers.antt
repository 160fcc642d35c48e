use Rattle.std.proofs.Common.{sym, ◌∙◌}
use Rattle.dex_types.specs.BookSide.{CanRest}
use Rattle.dex_sound.proofs.WithoutLaws.{found-All}
use Rattle.dex_cancel.proofs.TakenOffLaws.{queue-by, without-on}
use Rattle.dex_cancel.proofs.taking.take_off.Goals as goal

pub push_releasing_out-requires-clause-slot : goal.push_releasing_out-requires-clause-slot
push_releasing_out-requires-clause-slot g c =
    (found-All CanRest c.args.order.id c.args.order (g.S.SideRead.orders c.args.book.now) c.requires.rests (g.met.S.SideRead.is_book_side c.args.book.now c.requires.holds).can_rest).slot

pub push_releasing_out-requires-clause-tier : goal.push_releasing_out-requires-clause-tier
push_releasing_out-requires-clause-tier g c =
    (found-All CanRest c.args.order.id c.args.order (g.S.SideRead.orders c.args.book.now) c.requires.rests (g.met.S.SideRead.is_book_side c.args.book.now c.requires.holds).can_rest).tier

pub returns-clause-left : goal.returns-clause-left
returns-clause-left g c =
    record {
      orders = c.remove.ensures.orders ∙ sym (without-on c.args.side c.args.order (g.S.SideRead.orders c.args.book.now));
      queue = queue-by c.push_releasing_out.new.ring.bytes.now _ _ c.push_releasing_out.ensures.list c.push_releasing_out.ensures.bytes;
      accepted = c.push_releasing_out.ensures.queue.accepted;
    }

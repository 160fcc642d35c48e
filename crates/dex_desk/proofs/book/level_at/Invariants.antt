use Rattle.std.proofs.Common.{Some, length}
use Rattle.dex_types.specs.Side.{price_of}
use Rattle.dex_laws.specs.Walks.{IsReached, orders_from}
use Rattle.dex_slab.specs.Slab.{resting}
use Rattle.dex_desk.proofs.BookLaws.{HasCounted}
use Rattle.dex_desk.proofs.book.level_at.Given as goal

abbrev pub invariant-orders : goal.invariant-orders
invariant-orders l = record {
  counted : HasCounted (price_of l.fn.first.id) l.lots (orders_from l.next (resting l.side.side l.side.bytes.now))
      (orders_from (Some l.fn.first) (resting l.side.side l.side.bytes.now));
  reached : IsReached l.next (resting l.side.side l.side.bytes.now);
}

abbrev pub decreases-orders : goal.decreases-orders
decreases-orders l = length (orders_from l.next (resting l.side.side l.side.bytes.now))

use Rattle.std.proofs.Common.{◌≡◌, ◌+◌, length}
use Rattle.dex_laws.specs.Walks.{orders_from, IsReached}
use Rattle.dex_types.specs.Meeting.{meet}
use Rattle.dex_fills.specs.Taker.{taking, demand}
use Rattle.dex_fills.proofs.SideMeetings.{IsCarried}
use Rattle.dex_fills.proofs.side_walk.foresee.Given as goal

abbrev pub invariant-orders : goal.invariant-orders
invariant-orders g l = record {
  carried : IsCarried (meet l.side (taking l.taker) (demand l.fn.want) (g.B.SideRead.orders l.opposing))
      (meet l.side (taking l.taker) (demand l.met.want) (orders_from l.next (g.B.SideRead.orders l.opposing))) l.met.sums;
  counted : l.events + length (meet l.side (taking l.taker) (demand l.met.want) (orders_from l.next (g.B.SideRead.orders l.opposing))).events
      ≡ length (meet l.side (taking l.taker) (demand l.fn.want) (g.B.SideRead.orders l.opposing)).events;
  reached : IsReached l.next (g.B.SideRead.orders l.opposing);
}

abbrev pub decreases-orders : goal.decreases-orders
decreases-orders g l = length (orders_from l.next (g.B.SideRead.orders l.opposing))

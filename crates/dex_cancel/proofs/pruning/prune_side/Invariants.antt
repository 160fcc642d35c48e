use Rattle.std.proofs.Common.{◌≡◌, ◌≤◌, length}
use Rattle.dex_ring.specs.Ring.{IsEventQueue}
use Rattle.dex_accounts.specs.Keeps.{KeepsSide}
use Rattle.dex_cancel.specs.TakenOff.{queue_of}
use Rattle.dex_laws.specs.Walks.{orders_from}
use Rattle.dex_cancel.proofs.PruneLaws.{IsPruned}
use Rattle.dex_cancel.proofs.pruning.prune_side.Given as goal

abbrev pub invariant-orders : goal.invariant-orders
invariant-orders g l = record {
  pruned : IsPruned l.fn.sizes l.fn.account l.fn.side l.count (g.S.SideRead.orders l.fn.book) (queue_of l.fn.ring.bytes.now) l.next
      (g.S.SideRead.orders l.book) (queue_of l.ring.bytes.now);
  most : l.count ≤ l.fn.limit;
  accepted : IsEventQueue l.ring.bytes.now;
  book : KeepsSide g.S.SideRead.holds g.S.SideBook.same_place g.S.SideRead.side g.S.SideRead.room l.fn.book l.book;
  ring_place : l.ring.bytes.ghost_name ≡ l.fn.ring.bytes.ghost_name;
}

abbrev pub decreases-orders : goal.decreases-orders
decreases-orders g l = length (orders_from l.next (g.S.SideRead.orders l.book))

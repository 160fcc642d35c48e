use Rattle.std.proofs.Common.{◌≡◌, ◌≤◌, ◌-◌}
use Rattle.dex_ring.specs.Ring.{IsEventQueue}
use Rattle.dex_accounts.specs.Keeps.{KeepsSide}
use Rattle.dex_cancel.specs.TakenOff.{queue_of}
use Rattle.dex_cancel_slots.specs.Given.{slots_in}
use Rattle.dex_cancel_slots.proofs.PruneLaws.{IsPrunedTo}
use Rattle.dex_cancel_slots.proofs.pruning.prune_side.Given as goal

abbrev pub invariant-slots : goal.invariant-slots
invariant-slots g l = record {
  pruned : IsPrunedTo l.fn.sizes l.fn.owner.account (slots_in l.owner.orders) l.fn.side l.count (g.S.SideRead.orders l.fn.book) (queue_of l.fn.ring.bytes.now) l.last
      (g.S.SideRead.orders l.book) (queue_of l.ring.bytes.now);
  most : l.count ≤ l.fn.limit;
  accepted : IsEventQueue l.ring.bytes.now;
  book : KeepsSide g.S.SideRead.holds g.S.SideBook.same_place g.S.SideRead.side g.S.SideRead.room l.fn.book l.book;
  ring_place : l.ring.bytes.ghost_name ≡ l.fn.ring.bytes.ghost_name;
}

abbrev pub decreases-slots : goal.decreases-slots
decreases-slots g l = l.fn.limit - l.count

use Rattle.std.proofs.Common.{◌≡◌, ◌++◌, length}
use Rattle.dex_laws.specs.Walks.{orders_from, IsReached}
use Rattle.dex_slab.specs.Slab.{resting}
use Rattle.dex_audit_rules.proofs.gathered.resting_orders.Given as goal

abbrev pub invariant-orders : goal.invariant-orders
invariant-orders l = record {
  read : l.orders.items ++ orders_from l.next (resting l.slab.side l.slab.bytes.now) ≡ resting l.slab.side l.slab.bytes.now;
  reached : IsReached l.next (resting l.slab.side l.slab.bytes.now);
}

abbrev pub decreases-orders : goal.decreases-orders
decreases-orders l = length (orders_from l.next (resting l.slab.side l.slab.bytes.now))

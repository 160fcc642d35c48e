use Rattle.std.proofs.Common.{◌≡◌, length}
use Rattle.dex_types.specs.Cancel.{oldest, orders_of}
use Rattle.dex_laws.specs.Walks.{orders_from, IsReached}
use Rattle.dex_cancel.specs.Finding.{maybe_resting, older_of}
use Rattle.dex_cancel.proofs.finding.oldest_on.Given as goal

abbrev pub invariant-orders : goal.invariant-orders
invariant-orders g l =
    let orders = g.B.SideRead.orders l.book in record {
      found : older_of (maybe_resting l.found) (oldest l.fn.client (orders_of l.fn.account l.fn.side (orders_from l.next orders))) ≡ oldest l.fn.client (orders_of l.fn.account l.fn.side orders);
      reached : IsReached l.next orders;
    }

abbrev pub decreases-orders : goal.decreases-orders
decreases-orders g l = length (orders_from l.next (g.B.SideRead.orders l.book))

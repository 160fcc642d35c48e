use Rattle.std.proofs.Common.{◌≡◌, ◌++◌, length}
use Rattle.dex_laws.specs.Walks.{orders_from, IsReached}
use Rattle.dex_slab.specs.Changes.{KeepsFrame}
use Rattle.dex_slab.specs.Slab.{IsSlab, resting, room_in}
use Rattle.dex_migrate.proofs.sides.copy_orders.Given as goal

abbrev pub invariant-orders : goal.invariant-orders
invariant-orders l =
    let all = resting l.initial.to.side l.from.bytes.now in record {
      copied : resting l.to.side l.to.bytes.now ++ orders_from l.next all ≡ all;
      reached : IsReached l.next all;
      holds : IsSlab l.to.bytes.now;
      side : l.to.side ≡ l.initial.to.side;
      room : room_in l.to.bytes.now ≡ room_in l.initial.to.bytes.now;
      place : l.to.bytes.ghost_name ≡ l.initial.to.bytes.ghost_name;
      frame : KeepsFrame l.initial.to.bytes.now l.to.bytes.now;
    }

abbrev pub decreases-orders : goal.decreases-orders
decreases-orders l = length (orders_from l.next (resting l.from.side l.from.bytes.now))

use Rattle.std.proofs.Common.{◌≡◌, ◌≤◌, ◌+◌, ◌-◌, drop, length}
use Rattle.dex_cancel_slots.specs.Given.{slots_in}
use Rattle.dex_cancel_slots.specs.Slots.{any_holding, orders_in}
use Rattle.dex_cancel_slots.proofs.counting.count_first.Given as goal

abbrev pub invariant-slots : goal.invariant-slots
invariant-slots g l =
    let named = orders_in any_holding (g.B.SideRead.orders l.own.bids.now) (g.A.SideRead.orders l.own.asks.now) in record {
      sum : l.count + length (named (drop l.slot (slots_in l.own.orders))) ≡ length (named (slots_in l.own.orders));
      small : l.count ≤ l.slot;
      most : l.count ≤ l.limit;
    }

abbrev pub decreases-slots : goal.decreases-slots
decreases-slots g l = l.end - l.slot

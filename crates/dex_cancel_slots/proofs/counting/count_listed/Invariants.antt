use Rattle.std.proofs.Common.{◌≡◌, ◌≤◌, length, take}
use Rattle.dex_types.specs.Cancel.{all_orders_of, taken_by_all}
use Rattle.dex_cancel_slots.proofs.counting.count_listed.Given as goal

abbrev pub invariant-loop-place : goal.invariant-loop-place
invariant-loop-place g l = record {
  count : l.count ≡ length (taken_by_all (take l.place (take l.ids.count l.ids.ids)) (all_orders_of l.own.account (g.B.SideRead.orders l.own.bids.now) (g.A.SideRead.orders l.own.asks.now)));
  most : l.count ≤ l.place;
}

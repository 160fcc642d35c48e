use Rattle.std.proofs.Common.{◌≡◌, ◌≤◌, length, take}
use Rattle.dex_types.specs.Cancel.{all_orders_of, taken_by_all}
use Rattle.dex_ring.specs.Ring.{IsEventQueue}
use Rattle.dex_accounts.specs.Keeps.{KeepsSide}
use Rattle.dex_cancel.specs.TakenOff.{queue_of}
use Rattle.dex_cancel.proofs.TakenOffLaws.{IsLeft}
use Rattle.dex_cancel.proofs.ListedLaws.{left_after}
use Rattle.dex_cancel_slots.proofs.applying.cancel_all.Given as goal

abbrev pub invariant-loop-place : goal.invariant-loop-place
invariant-loop-place g l =
    let bids = g.B.SideRead.orders l.fn.bids in
    let asks = g.A.SideRead.orders l.fn.asks in
    let all = all_orders_of l.fn.owner.account bids asks in
    let clients = take l.ids.count l.ids.ids in record {
      left : IsLeft l.fn.sizes l.fn.owner.account (taken_by_all (take l.place clients) all) (left_after (take l.place clients) all) bids asks (queue_of l.fn.ring.bytes.now)
          (g.B.SideRead.orders l.bids) (g.A.SideRead.orders l.asks) (queue_of l.ring.bytes.now);
      count : l.count ≡ length (taken_by_all (take l.place clients) all);
      most : l.count ≤ l.place;
      accepted : IsEventQueue l.ring.bytes.now;
      bids : KeepsSide g.B.SideRead.holds g.B.SideBook.same_place g.B.SideRead.side g.B.SideRead.room l.fn.bids l.bids;
      asks : KeepsSide g.A.SideRead.holds g.A.SideBook.same_place g.A.SideRead.side g.A.SideRead.room l.fn.asks l.asks;
      ring_place : l.ring.bytes.ghost_name ≡ l.fn.ring.bytes.ghost_name;
    }

use Rattle.std.proofs.Common.{◌≡◌, ◌^◌, ◌<◌, length}
use Rattle.dex_laws.specs.Locks.{locked}
use Rattle.dex_ring.specs.Ring.{IsEventQueue, ring_of}
use Rattle.dex_types.specs.Meeting.{meet}
use Rattle.dex_types.specs.Side.{opposite}
use Rattle.dex_ring.specs.Appended.{appended, pushed_all}
use Rattle.dex_fills.specs.Taker.{taking, demand}
use Rattle.dex_fills.proofs.SideMeetings.{IsCarried}
use Rattle.dex_fills.proofs.side_meeting.meet_side.Given as goal

abbrev pub invariant-orders : goal.invariant-orders
invariant-orders g l = record {
  carried : IsCarried (meet l.side (taking l.taker) (demand l.fn.want) (g.B.SideRead.orders l.initial.opposing))
      (meet l.side (taking l.taker) (demand l.met.want) (g.B.SideRead.orders l.opposing)) l.met.sums;
  joined : appended (meet l.side (taking l.taker) (demand l.met.want) (g.B.SideRead.orders l.opposing)).events (ring_of l.ring.bytes.now)
      ≡ appended (meet l.side (taking l.taker) (demand l.fn.want) (g.B.SideRead.orders l.initial.opposing)).events (ring_of l.initial.ring.bytes.now);
  written : pushed_all (meet l.side (taking l.taker) (demand l.met.want) (g.B.SideRead.orders l.opposing)).events l.ring.bytes.now
      ≡ pushed_all (meet l.side (taking l.taker) (demand l.fn.want) (g.B.SideRead.orders l.initial.opposing)).events l.initial.ring.bytes.now;
  counted : (ring_of l.ring.bytes.now).seq_num < 2 ^ 64;
  accepted : IsEventQueue l.ring.bytes.now;
  place : l.ring.bytes.ghost_name ≡ l.initial.ring.bytes.ghost_name;
  holds : g.B.SideRead.holds l.opposing;
  same_side : g.B.SideRead.side l.opposing ≡ g.B.SideRead.side l.initial.opposing;
  same_room : g.B.SideRead.room l.opposing ≡ g.B.SideRead.room l.initial.opposing;
  same_place : g.B.SideBook.same_place l.initial.opposing l.opposing;
  locks : locked (opposite l.side) l.taker.sizes (g.B.SideRead.orders l.opposing) < 2 ^ 64;
}

abbrev pub decreases-orders : goal.decreases-orders
decreases-orders g l = length (g.B.SideRead.orders l.opposing)

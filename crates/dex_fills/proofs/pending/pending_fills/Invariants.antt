use Rattle.std.proofs.Common.{◌≡◌, ◌+◌, ◌*◌, ◌^◌, ◌≤◌, drop}
use Rattle.dex_ring.specs.Ring.{ring_of}
use Rattle.dex_types.specs.Owed.{leaving}
use Rattle.dex_types.specs.Side.{Coin, Pc}
use Rattle.dex_types.specs.Totals.{total}
use Rattle.dex_fills.proofs.pending.pending_fills.Given as goal

abbrev pub invariant-loop-number : goal.invariant-loop-number
invariant-loop-number l = record {
  coin : l.coin + total (leaving Coin) (drop l.number (ring_of l.ring.bytes.now).events) ≡ total (leaving Coin) (ring_of l.ring.bytes.now).events;
  pc : l.pc + total (leaving Pc) (drop l.number (ring_of l.ring.bytes.now).events) ≡ total (leaving Pc) (ring_of l.ring.bytes.now).events;
  coin_small : l.coin ≤ l.number * 2 ^ 64;
  pc_small : l.pc ≤ l.number * 2 ^ 64;
}

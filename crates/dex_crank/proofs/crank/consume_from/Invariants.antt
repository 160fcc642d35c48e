use Rattle.std.proofs.Common.{◌≡◌, ◌+◌, ◌-◌, ◌*◌, ◌^◌, ◌≤◌}
use Rattle.dex_ring.specs.Ring.{events_of}
use Rattle.dex_types.specs.Payment.{consumable}
use Rattle.dex_types.specs.Side.{Coin, Pc}
use Rattle.dex_types.specs.Solvency.{all_leaving}
use Rattle.dex_crank.specs.PaidBytes.{crank_of, paid_bytes}
use Rattle.dex_crank.proofs.crank.consume_from.Given as goal

abbrev pub invariant-loop-count : goal.invariant-loop-count
invariant-loop-count g l = record {
  bytes : crank_of l.queue (g.A.OrdersAccounts.held l.accounts) ≡ paid_bytes l.count (crank_of l.initial.queue (g.A.OrdersAccounts.held l.initial.accounts));
  consumed : consumable l.limit l.named (events_of l.initial.queue) ≡ l.count + consumable (l.limit - l.count) l.named (events_of l.queue);
  coin : all_leaving Coin (events_of l.initial.queue) ≡ l.fills.coin + all_leaving Coin (events_of l.queue);
  pc : all_leaving Pc (events_of l.initial.queue) ≡ l.fills.pc + all_leaving Pc (events_of l.queue);
  coin_small : l.fills.coin ≤ l.count * 2 ^ 64;
  pc_small : l.fills.pc ≤ l.count * 2 ^ 64;
  place : g.A.OrdersAccounts.place l.accounts ≡ g.A.OrdersAccounts.place l.initial.accounts;
}

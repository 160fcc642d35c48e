use Rattle.std.proofs.Common.{◌≡◌, ℕ, ◌<◌, None, length, get_or, take}
use Rattle.dex_orders.specs.OrdersAccount.{account_of}
use Rattle.dex_audit_rules.specs.Slots.{or_else, unheld_in}
use Rattle.dex_audit_rules.proofs.misheld.note_side.Given as goal

abbrev pub invariant-loop-place : goal.invariant-loop-place
invariant-loop-place l = record {
  long : length l.first ≡ 128;
  each : (slot : ℕ) → slot < 128 → get_or l.first slot None
      ≡ or_else (get_or l.initial.first slot None) (unheld_in l.owner (account_of l.view.bytes.now) l.side slot (take l.place l.orders));
}

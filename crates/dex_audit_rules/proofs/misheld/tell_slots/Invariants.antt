use Rattle.std.proofs.Common.{◌≡◌, ◌++◌, take}
use Rattle.dex_types.specs.Market.{Market}
use Rattle.dex_orders.specs.OrdersAccount.{account_of}
use Rattle.dex_audit_rules.specs.Lists.{numbered}
use Rattle.dex_audit_rules.specs.Own.{IsOwnOf}
use Rattle.dex_audit_rules.specs.Slots.{misheld}
use Rattle.dex_audit_rules.proofs.misheld.tell_slots.Given as goal

abbrev pub invariant-loop-slot : goal.invariant-loop-slot
invariant-loop-slot l =
    (m : Market) → IsOwnOf l.own m
    → l.found.items ≡ l.initial.found.items ++ numbered (misheld m.bids m.asks l.owner) 0 (take l.slot (account_of l.view.bytes.now).slots)

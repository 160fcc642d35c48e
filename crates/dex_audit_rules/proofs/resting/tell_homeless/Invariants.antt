use Rattle.std.proofs.Common.{◌≡◌, ◌++◌, take}
use Rattle.dex_audit_rules.specs.Lists.{numbered}
use Rattle.dex_audit_rules.specs.Slots.{homeless}
use Rattle.dex_audit_rules.proofs.resting.tell_homeless.Given as goal

abbrev pub invariant-loop-place : goal.invariant-loop-place
invariant-loop-place l = l.found.items ≡ l.initial.found.items ++ numbered (homeless l.owners l.side) 0 (take l.place l.orders)

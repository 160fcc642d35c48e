use Rattle.std.proofs.Common.{◌≡◌, ◌++◌, take}
use Rattle.dex_audit_rules.specs.Funds.{too_large}
use Rattle.dex_audit_rules.specs.Lists.{numbered}
use Rattle.dex_audit_rules.proofs.locks.tell_too_large.Given as goal

abbrev pub invariant-loop-place : goal.invariant-loop-place
invariant-loop-place l = l.found.items ≡ l.initial.found.items ++ numbered (too_large l.side l.sizes l.account) 0 (take l.place l.orders)

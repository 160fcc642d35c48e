use Rattle.std.proofs.Common.{◌≡◌, ◌++◌, take}
use Rattle.std.specs.List.{flat_map}
use Rattle.dex_audit_rules.specs.Slots.{ungiven}
use Rattle.dex_audit_rules.proofs.slots.tell_ungiven.Given as goal

abbrev pub invariant-loop-place : goal.invariant-loop-place
invariant-loop-place l = l.found.items ≡ l.initial.found.items ++ flat_map (ungiven l.next) (take l.place l.taken)

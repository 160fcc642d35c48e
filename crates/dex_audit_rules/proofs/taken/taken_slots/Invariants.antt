use Rattle.std.proofs.Common.{◌≡◌, take}
use Rattle.dex_totals.specs.Reading.{traders}
use Rattle.dex_audit_rules.specs.Slots.{taken_in}
use Rattle.dex_audit_rules.proofs.taken.taken_slots.Given as goal

abbrev pub invariant-loop-account : goal.invariant-loop-account
invariant-loop-account l = l.taken.items ≡ taken_in (traders (take l.account-index l.accounts))

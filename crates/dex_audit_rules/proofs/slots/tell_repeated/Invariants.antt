use Rattle.std.proofs.Common.{◌≡◌, ◌++◌, ℕ, eqb, not, take}
use Rattle.dex_audit_rules.specs.Lists.{numbered}
use Rattle.dex_audit_rules.specs.Slots.{is_number_of, repeated}
use Rattle.dex_totals.specs.Tallies.{times}
use Rattle.dex_audit_rules.proofs.slots.tell_repeated.Given as goal

abbrev pub invariant-loop-place : goal.invariant-loop-place
invariant-loop-place l = record {
  told : l.found.items ≡ l.initial.found.items ++ numbered (repeated l.taken) 0 (take l.place l.taken);
  met : (number : ℕ) → not (is_number_of number (take l.place l.taken)) ≡ eqb (times l.met number) 0;
}

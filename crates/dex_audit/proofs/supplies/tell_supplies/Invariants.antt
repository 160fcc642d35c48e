use Rattle.std.proofs.Common.{◌≡◌, ◌++◌, map, take}
use Rattle.std.specs.List.{flat_map}
use Rattle.dex_types.specs.Accounts.{accounts_of, named_of}
use Rattle.dex_audit.specs.Supplies.{supply_off}
use Rattle.dex_audit.proofs.supplies.tell_supplies.Given as goal

abbrev pub invariant-loop-place : goal.invariant-loop-place
invariant-loop-place l = l.found.items ≡ l.initial.found.items ++ flat_map (supply_off (accounts_of l.accounts)) (take l.place (map named_of l.mints))

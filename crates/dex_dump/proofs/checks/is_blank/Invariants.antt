use Rattle.std.proofs.Common.{◌≡◌, take}
use Rattle.dex_orders.specs.Faults.{are_zeros}
use Rattle.dex_dump.proofs.checks.is_blank.Given as goal

abbrev pub invariant-bytes : goal.invariant-bytes
invariant-bytes l = l.all ≡ are_zeros (take l.place l.bytes)

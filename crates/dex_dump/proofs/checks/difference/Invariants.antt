use Rattle.std.proofs.Common.{◌≡◌, ◌+◌, drop}
use Rattle.dex_fields.specs.Frame.{difference_from}
use Rattle.dex_dump.proofs.checks.difference.Given as goal

abbrev pub invariant-loop-i : goal.invariant-loop-i
invariant-loop-i l =
    difference_from (l.field.at + l.i) (drop l.i l.found) (drop l.i l.byte-items) ≡ difference_from l.field.at l.found l.byte-items

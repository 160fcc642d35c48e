use Rattle.std.proofs.Common.{◌≡◌, ◌+◌, drop}
use Rattle.dex_fields.specs.Frame.{difference_from}
use Rattle.dex_fields.proofs.frame.first_difference.Given as goal

abbrev pub invariant-loop-i : goal.invariant-loop-i
invariant-loop-i l =
    difference_from (l.field.at + l.i) (drop l.i l.piece) (drop l.i l.text) ≡ difference_from l.field.at l.piece l.text

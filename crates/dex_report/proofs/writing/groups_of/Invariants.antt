use Rattle.std.proofs.Common.{◌≡◌, ◌++◌}
use Rattle.dex_report.specs.Parts.{parts_in}
use Rattle.dex_report.proofs.writing.groups_of.Given as goal

abbrev pub invariant-loop-part : goal.invariant-loop-part
invariant-loop-part l = parts_in l.groups.items ++ l.group.items ≡ l.yielded

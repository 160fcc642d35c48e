use Rattle.std.proofs.Common.{◌≡◌, ◌≤◌, take}
use Rattle.dex_cancel.specs.Counting.{count_among}
use Rattle.dex_cancel.proofs.counting.count_before.Given as goal

abbrev pub invariant-loop-earlier : goal.invariant-loop-earlier
invariant-loop-earlier l = record {
  count : l.count ≡ count_among l.client (take l.earlier l.ids);
  most : l.count ≤ l.earlier;
}

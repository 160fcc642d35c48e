use Rattle.std.proofs.Common.{◌≡◌, map, take}
use Rattle.dex_run.proofs.Common.{next_pass, split_once}
use Rattle.dex_run.proofs.Openings.{half}
use Rattle.dex_run.proofs.building.split_all.Given as goal

abbrev pub invariant-loop-place : goal.invariant-loop-place
invariant-loop-place g l = record {
  firsts : l.firsts.items ≡ half split_once l.place l.fn.firsts.items;
  given : l.given.items ≡ map next_pass (take l.place l.fn.firsts.items);
}

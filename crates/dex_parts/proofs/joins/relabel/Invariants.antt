use Rattle.std.proofs.Common.{◌≡◌, ◌++◌, drop, map, take}
use Rattle.dex_parts.specs.Joins.{relabelled}
use Rattle.dex_parts.proofs.joins.relabel.Given as goal

-- so many have their new label
abbrev pub invariant-loop-place : goal.invariant-loop-place
invariant-loop-place l =
    l.labels ≡ map (relabelled l.from l.to) (take l.place l.initial.labels) ++ drop l.place l.initial.labels

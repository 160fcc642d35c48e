use Rattle.std.proofs.Common.{◌≡◌, ◌+◌, drop}
use Rattle.dex_script_types.specs.Places.{items_at}
use Rattle.dex_script_types.proofs.ItemCounts.{begun}
use Rattle.dex_script_types.proofs.script.items_among.Given as goal

-- what is counted, and what begins at the places that are left, are all items
abbrev pub invariant-loop-place : goal.invariant-loop-place
invariant-loop-place l = l.count + begun l.last (drop l.place l.places) ≡ items_at l.places

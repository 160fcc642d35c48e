use Rattle.std.proofs.Common.{length}
use Rattle.dex_parts.specs.Joins.{links_of}
use Rattle.dex_parts.proofs.JoinLaws.{AreLeft}
use Rattle.dex_parts.proofs.joins.join_rows.Given as goal

abbrev pub invariant-rows : goal.invariant-rows
invariant-rows l = AreLeft l.initial.labels l.labels (links_of l.markets l.places) (links_of l.markets l.left)

abbrev pub decreases-rows : goal.decreases-rows
decreases-rows l = length l.left

use Rattle.std.proofs.Common.{length}
use Rattle.dex_parts.proofs.CutLaws.{AreCutUpTo}
use Rattle.dex_parts.proofs.chains.counts_of.Given as goal

abbrev pub invariant-parts : goal.invariant-parts
invariant-parts l = AreCutUpTo l.most l.counts.items l.left l.places

abbrev pub decreases-parts : goal.decreases-parts
decreases-parts l = length l.left

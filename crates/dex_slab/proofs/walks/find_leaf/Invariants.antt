use Rattle.std.proofs.Common.{length}
use Rattle.dex_slab.specs.Nodes.{root_of}
use Rattle.dex_slab.specs.Tree.{nodes_of}
use Rattle.dex_slab.specs.Walks.{tree_at}
use Rattle.dex_slab.proofs.SeekLaw.{IsSought}
use Rattle.dex_slab.proofs.walks.find_leaf.Given as goal

abbrev pub invariant-loop-branch : goal.invariant-loop-branch
invariant-loop-branch l = IsSought (tree_at l.bytes (root_of l.bytes)) l.id l.parent l.node

abbrev pub decreases-loop-branch : goal.decreases-loop-branch
decreases-loop-branch l = length (nodes_of (tree_at l.bytes l.node))

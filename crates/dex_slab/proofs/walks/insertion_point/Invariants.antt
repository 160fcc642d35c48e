use Rattle.std.proofs.Common.{length}
use Rattle.dex_slab.specs.Nodes.{root_of}
use Rattle.dex_slab.specs.Tree.{nodes_of}
use Rattle.dex_slab.specs.Walks.{IsOnWay, tree_at}
use Rattle.dex_slab.proofs.walks.insertion_point.Given as goal

abbrev pub invariant-loop-child : goal.invariant-loop-child
invariant-loop-child l = IsOnWay (tree_at l.bytes (root_of l.bytes)) l.id l.node

abbrev pub decreases-loop-child : goal.decreases-loop-child
decreases-loop-child l = length (nodes_of (tree_at l.bytes l.node))

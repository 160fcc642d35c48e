use Rattle.std.proofs.Common.{◌≡◌, length}
use Rattle.dex_types.specs.BookSide.{best_of}
use Rattle.dex_slab.specs.Below.{IsPart}
use Rattle.dex_slab.specs.Walks.{tree_at}
use Rattle.dex_slab.specs.Tree.{nodes_of, orders_of}
use Rattle.dex_slab.proofs.search.first_leaf.Given as goal

abbrev pub invariant-down : goal.invariant-down
invariant-down l = record {
  part : IsPart l.bytes (tree_at l.bytes l.leaf);
  first : best_of (orders_of l.side (tree_at l.bytes l.fn.node)) ≡ best_of (orders_of l.side (tree_at l.bytes l.leaf));
}

abbrev pub decreases-down : goal.decreases-down
decreases-down l = length (nodes_of (tree_at l.bytes l.leaf))

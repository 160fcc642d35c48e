use Rattle.std.proofs.Common.{◌≡◌, length}
use Rattle.std.specs.Option.{IfSome, IsSome, option_or}
use Rattle.dex_types.specs.BookSide.{order_after}
use Rattle.dex_types.specs.Cancel.{order_with}
use Rattle.dex_slab.specs.Below.{first_below, IsPart}
use Rattle.dex_slab.specs.Walks.{tree_at}
use Rattle.dex_slab.specs.Tree.{nodes_of, orders_of}
use Rattle.dex_slab.proofs.behind.part_behind.Given as goal

abbrev pub invariant-down : goal.invariant-down
invariant-down l = record {
  part : IsPart l.bytes (tree_at l.bytes l.leaf);
  rests : IsSome (order_with l.id (orders_of l.side (tree_at l.bytes l.leaf)));
  next_part : IfSome l.next (λ n. IsPart l.bytes (tree_at l.bytes n));
  behind : order_after l.id (orders_of l.side (tree_at l.bytes l.fn.node))
      ≡ option_or (order_after l.id (orders_of l.side (tree_at l.bytes l.leaf))) (first_below l.bytes l.side l.next);
}

abbrev pub decreases-down : goal.decreases-down
decreases-down l = length (nodes_of (tree_at l.bytes l.leaf))

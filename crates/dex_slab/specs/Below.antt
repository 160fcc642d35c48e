-- A part of a side's tree: all that is below one of its nodes.
use Rattle.std.specs.Prelude.{ℕ, ◌≡◌, ◌<◌, ◌≤◌, List, Option, Some, None, length, if◌then◌else◌, ◌==◌}
use Rattle.dex_types.specs.declared.orders.Order.{Order}
use Rattle.dex_types.specs.declared.terms.Side.{Side}
use Rattle.dex_types.specs.BookSide.{best_of}
use Rattle.dex_types.specs.Side.{by_side}
use Rattle.dex_slab.specs.declared.nodes.Branch.{Branch}
use Rattle.dex_slab.specs.Held.{Holds}
use Rattle.dex_slab.specs.Nodes.{nodes_within}
use Rattle.dex_slab.specs.Path.{bit_behind}
use Rattle.dex_slab.specs.Slab.{resting, times}
use Rattle.dex_slab.specs.Tree.{Tree, HasPrefixes, KeysAgree, nodes_of, orders_of}
use Rattle.dex_slab.specs.Walks.{tree_at}

-- the tree is a part of a slab's: its nodes stand in the bytes, its prefixes grow and its keys agree
pub record IsPart (bytes : List ℕ) (t : Tree) : Type 0 where
  pub least : ℕ
  pub low : least ≤ 128
  pub held : Holds bytes t
  pub prefixes : HasPrefixes least t
  pub keys : KeysAgree t
  pub inside : (node : ℕ) → 1 ≤ times node (nodes_of t) → node < nodes_within (length bytes)

-- the first order below a node, if there is one
abbrev pub first_below : List ℕ → Side → Option ℕ → Option Order
first_below bytes side None = None
first_below bytes side (Some node) = best_of (orders_of side (tree_at bytes node))

-- the child whose orders come next after those of that child on a side, if there is one: of bids the first child after
-- the second, of asks the second after the first
abbrev pub child_beyond : Side → ℕ → Branch → Option ℕ
child_beyond side id branch =
    if bit_behind branch.prefix id == 1 then by_side side (Some branch.first) None else by_side side None (Some branch.second)

-- all orders of the side are below this node
pub record IsRoot (bytes : List ℕ) (node : ℕ) : Type 0 where
  pub part : IsPart bytes (tree_at bytes node)
  pub orders : (side : Side) → resting side bytes ≡ orders_of side (tree_at bytes node)

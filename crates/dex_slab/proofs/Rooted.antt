-- The tree from a slab's root on, as the calls that read a side go down it.
use Rattle.std.proofs.Common.{◌≡◌, ℕ, ◌≤◌, List, Option, Some, None, refl, ap, arith}
use Rattle.dex_types.specs.declared.terms.Side.{Side}
use Rattle.dex_types.specs.BookSide.{best_of}
use Rattle.dex_types.specs.Posting.{last_of}
use Rattle.dex_types.specs.Side.{opposite}
use Rattle.dex_slab.specs.Below.{IsRoot}
use Rattle.dex_slab.specs.Nodes.{count_of, root_of}
use Rattle.dex_slab.specs.Slab.{IsSlab, orders_in, resting, tree_of}
use Rattle.dex_slab.specs.Tree.{Tree, nodes_of}
use Rattle.dex_slab.specs.Walks.{tree_at}
use Rattle.dex_slab.proofs.Descents.{last-first}
use Rattle.dex_slab.proofs.PoolLaw.{used-below}
use Rattle.dex_slab.proofs.WalkLaw.{rooted}

-- it is a part of the tree, and all orders are below it
pub root-is : (bytes : List ℕ) → IsSlab bytes → 1 ≤ count_of bytes → IsRoot bytes (root_of bytes)
root-is bytes slab some =
    let r = rooted bytes slab some in
    record {
      part = record {
        least = 0;
        low = omega arith;
        held = r.held.nodes;
        prefixes = r.good.prefixes;
        keys = r.good.keys;
        inside = λ node met. used-below bytes (nodes_of (tree_at bytes (root_of bytes))) node r.shared met;
      };
      orders = λ side. ap (orders_in side) r.is;
    }

-- the last order of a side is the first of the other side
last-first_in : (side : Side) (tree : Option Tree) → last_of (orders_in side tree) ≡ best_of (orders_in (opposite side) tree)
last-first_in side None = refl
last-first_in side (Some t) = last-first side t

pub last-resting : (bytes : List ℕ) (side : Side) → last_of (resting side bytes) ≡ best_of (resting (opposite side) bytes)
last-resting bytes side = last-first_in side (tree_of bytes)

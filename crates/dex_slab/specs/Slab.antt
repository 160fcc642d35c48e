-- Which bytes are a side's slab, and which orders rest there.
use Rattle.std.specs.Prelude.{◌≡◌, ℕ, zero, suc, ◌+◌, ◌-◌, ◌<◌, ◌≤◌, List, [], ◌∷◌, ◌++◌, length, Option, Some, None, IfSome, if◌then◌else◌, ◌==◌}
use Rattle.dex_types.specs.declared.orders.Order.{Order}
use Rattle.dex_types.specs.declared.terms.Side.{Side}
use Rattle.dex_slab.specs.Nodes.{bump_of, count_of, free_head_of, free_len_of, next_of, nodes_within, room_of, root_of, tag_of}
use Rattle.dex_slab.specs.Tree.{Tree, CanAllRest, HasPrefixes, IsKnown, KeysAgree, leaves_of, nodes_of, orders_of, tree_from}

-- ---- what the bytes hold

-- the tree of a side, unless it is empty; prefixes grow, so no way down has more than 128 inner nodes and a leaf
unfoldable pub tree_of : List ℕ → Option Tree
tree_of bytes = if count_of bytes == 0 then None else Some (tree_from 129 bytes (root_of bytes))

-- the nodes that are reached from the root
abbrev pub nodes_in : Option Tree → List ℕ
nodes_in None = []
nodes_in (Some tree) = nodes_of tree

-- the orders of the leaves that are reached from the root, in book order
abbrev pub orders_in : Side → Option Tree → List Order
orders_in side None = []
orders_in side (Some tree) = orders_of side tree

-- how many leaves are reached from the root
abbrev pub leaves_in : Option Tree → ℕ
leaves_in None = 0
leaves_in (Some tree) = leaves_of tree

-- the free nodes, so many from this one on
unfoldable pub free_from : List ℕ → ℕ → ℕ → List ℕ
free_from bytes zero node = []
free_from bytes (suc count) node = node ∷ free_from bytes count (next_of bytes node)

-- the free nodes of a side
abbrev pub free_of : List ℕ → List ℕ
free_of bytes = free_from bytes (free_len_of bytes) (free_head_of bytes)

-- each of these nodes is free, and the last is marked as the last
abbrev pub AreFree : List ℕ → List ℕ → Type 0
AreFree bytes [] = Unit {0}
AreFree bytes (node ∷ []) = tag_of bytes node ≡ 4
AreFree bytes (node ∷ next ∷ others) = (tag_of bytes node ≡ 3) × AreFree bytes (next ∷ others)

-- 1 where two numbers are equal, else 0
abbrev pub same : ℕ → ℕ → ℕ
same a b = 1 - ((a - b) + (b - a))

-- how often a node is met in a list of nodes
abbrev pub times : ℕ → List ℕ → ℕ
times node [] = 0
times node (first ∷ others) = same first node + times node others

-- ---- which bytes are a slab

-- an account of this many bytes can be a side's: it has from 1 to 65,536 nodes
pub record IsSlabSize (size : ℕ) : Type 0 where
  pub some : 1 ≤ nodes_within size
  pub few : nodes_within size ≤ 65536

-- the nodes below `bump_index` are those in use and those on the free list, each once: the rules of the free list, and
-- of the nodes of both together
pub record IsShared (bytes used free : List ℕ) : Type 0 where
  pub bump : bump_of bytes ≤ nodes_within (length bytes)
  pub below : (node : ℕ) → 1 ≤ times node (used ++ free) → node < bump_of bytes
  pub once : (node : ℕ) → times node (used ++ free) ≤ 1
  pub whole : length (used ++ free) ≡ bump_of bytes
  pub free_nodes : AreFree bytes free

-- the rules of a tree
pub record IsTree (tree : Tree) : Type 0 where
  pub known : IsKnown tree
  pub prefixes : HasPrefixes 0 tree
  pub keys : KeysAgree tree
  pub can_rest : CanAllRest tree

-- the bytes are a slab: it has a size that is allowed, and keeps the ten rules
pub record IsSlab (bytes : List ℕ) : Type 0 where
  pub size : IsSlabSize (length bytes)
  pub shared : IsShared bytes (nodes_in (tree_of bytes)) (free_of bytes)
  pub count : count_of bytes ≡ leaves_in (tree_of bytes)
  pub tree : IfSome (tree_of bytes) IsTree

-- the orders that rest on a side
abbrev pub resting : Side → List ℕ → List Order
resting side bytes = orders_in side (tree_of bytes)

-- how many orders an account has room for
abbrev pub room_in : List ℕ → ℕ
room_in bytes = room_of (nodes_within (length bytes))

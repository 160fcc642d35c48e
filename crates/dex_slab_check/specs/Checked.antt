-- What the check of a slab has found to hold, part by part.
use Rattle.std.specs.Prelude.{◌≡◌, ℕ, ◌<◌, ◌≤◌, Option, IfSome, List, length}
use Rattle.dex_types.specs.BookSide.{CanRest}
use Rattle.dex_slab_check.specs.Faults.{IsTreeNode}
use Rattle.dex_slab.specs.Nodes.{bump_of, key_of, order_of, prefix_of, root_of, tag_of}
use Rattle.dex_slab.specs.Slab.{AreFree, leaves_in, nodes_in, times}
use Rattle.dex_slab.specs.Tree.{Begins, CanAllRest, HasPrefixes, IsKnown, KeysAgree, Tree, leaves_of, nodes_of}

-- the node by itself keeps the rules of a tree's node
pub record IsSoundNode (bytes : List ℕ) (node : ℕ) : Type 0 where
  pub below : node < bump_of bytes
  pub known : IsTreeNode bytes node
  pub short : tag_of bytes node ≡ 1 → prefix_of bytes node < 128
  pub can_rest : tag_of bytes node ≡ 2 → CanRest (order_of bytes node)

-- the child of an inner node whose keys have this bit next keeps the rules between the two
pub record IsSoundChild (bytes : List ℕ) (node bit child : ℕ) : Type 0 where
  pub sound : IsSoundNode bytes child
  pub grows : tag_of bytes child ≡ 1 → prefix_of bytes node < prefix_of bytes child
  pub key : Begins (prefix_of bytes node) (key_of bytes node) bit (key_of bytes child)

-- each of these nodes is below bump_index
abbrev pub AreBelow : List ℕ → List ℕ → Type 0
AreBelow bytes nodes = (node : ℕ) → 1 ≤ times node nodes → node < bump_of bytes

-- no node is met twice among these
abbrev pub AreMetOnce : List ℕ → Type 0
AreMetOnce nodes = (node : ℕ) → times node nodes ≤ 1

-- the tree that begins at this node keeps the rules of a tree
pub record IsSoundTree (bytes : List ℕ) (node : ℕ) (tree : Tree) : Type 0 where
  pub known : IsKnown tree
  pub prefixes : (least : ℕ) → (tag_of bytes node ≡ 1 → least ≤ prefix_of bytes node) → HasPrefixes least tree
  pub keys : KeysAgree tree
  pub can_rest : CanAllRest tree
  pub below : AreBelow bytes (nodes_of tree)
  pub once : AreMetOnce (nodes_of tree)

-- and it has this many nodes, and so many leaves
pub record IsSizedTree (bytes : List ℕ) (node : ℕ) (tree : Tree) (size leaves : ℕ) : Type 0 where
  pub sound : IsSoundTree bytes node tree
  pub is_size : size ≡ length (nodes_of tree)
  pub is_leaves : leaves ≡ leaves_of tree
  pub few : size ≤ 65536
  pub fewer : leaves ≤ size

-- the tree of a side, if it has one, keeps the rules of a tree, and has this many nodes and leaves
pub record IsSizedRoot (bytes : List ℕ) (tree : Option Tree) (size leaves : ℕ) : Type 0 where
  pub sound : IfSome tree (IsSoundTree bytes (root_of bytes))
  pub is_size : size ≡ length (nodes_in tree)
  pub is_leaves : leaves ≡ leaves_in tree

-- the free nodes keep the rules of the free list
pub record IsSoundFree (bytes : List ℕ) (free : List ℕ) : Type 0 where
  pub below : AreBelow bytes free
  pub tags : AreFree bytes free

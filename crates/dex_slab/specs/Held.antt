-- Which bytes of an account hold the nodes of a tree.
use Rattle.std.specs.Prelude.{◌≡◌, ℕ, List, replicate}
use Rattle.dex_fields.specs.declared.free_node.TheConstants as free
use Rattle.dex_fields.specs.declared.inner_node.TheConstants as inner
use Rattle.dex_fields.specs.declared.leaf_node.TheConstants as leaf
use Rattle.dex_fields.specs.Bytes.{bytes_in, number_in}
use Rattle.dex_types.specs.declared.orders.Order.{Order}
use Rattle.dex_slab.specs.Nodes.{node_bytes, order_in}
use Rattle.dex_slab.specs.Path.{top_of}
use Rattle.dex_slab.specs.Tree.{Tree, Leaf, Inner, Other}

-- 72 bytes are a leaf with this order
pub record IsLeaf (piece : List ℕ) (order : Order) : Type 0 where
  pub tag : number_in piece inner.TAG ≡ 2
  pub said : order_in piece ≡ order

-- 72 bytes are an inner node with this prefix, key and children
pub record IsInner (piece : List ℕ) (prefix key first second : ℕ) : Type 0 where
  pub tag : number_in piece inner.TAG ≡ 1
  pub prefixes : number_in piece inner.PREFIX_LEN ≡ prefix
  pub keys : number_in piece inner.KEY ≡ key
  pub firsts : number_in piece inner.FIRST_CHILD ≡ first
  pub seconds : number_in piece inner.SECOND_CHILD ≡ second

-- 72 bytes are a free node with this tag, before this one
pub record IsFree (piece : List ℕ) (tag next : ℕ) : Type 0 where
  pub tags : number_in piece free.TAG ≡ tag
  pub nexts : number_in piece free.NEXT ≡ next

-- the padding of a leaf, of an inner node and of a free node is zero
abbrev pub HasLeafPadding : List ℕ → Type 0
HasLeafPadding piece = bytes_in piece leaf.PADDING ≡ replicate 2 0

abbrev pub HasInnerPadding : List ℕ → Type 0
HasInnerPadding piece = bytes_in piece inner.PADDING ≡ replicate 40 0

abbrev pub HasFreePadding : List ℕ → Type 0
HasFreePadding piece = bytes_in piece free.PADDING ≡ replicate 64 0

-- each node of the tree stands in the bytes
abbrev pub Holds : List ℕ → Tree → Type 0
Holds bytes (Leaf node order) = IsLeaf (node_bytes bytes node) order
Holds bytes (Inner node prefix key first second) =
    IsInner (node_bytes bytes node) prefix key (top_of first) (top_of second) × Holds bytes first × Holds bytes second
Holds bytes (Other node) = ⊥

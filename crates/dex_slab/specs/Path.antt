-- A way down a tree: where a part of it stands, and what stands beside.
use Rattle.std.specs.Prelude.{ℕ, suc, ◌%◌}
use Rattle.std.specs.Int.{leading_zeros, w128}
use Rattle.std.specs.Int.Bits.{bit_xor}
use Rattle.dex_slab.specs.Tree.{Tree, Leaf, Inner, Other, Begins, first_bits}

-- a way from the root: at the root, or into the first or the second child of an inner node with this number, prefix and
-- key, beside this other child, at the end of a way
pub data Path : Type 0 where
  Root : Path
  InFirst : ℕ → ℕ → ℕ → Tree → Path → Path
  InSecond : ℕ → ℕ → ℕ → Tree → Path → Path

-- the whole tree, with a part of it at the end of the way
abbrev pub plug : Path → Tree → Tree
plug Root part = part
plug (InFirst node prefix key second up) part = plug up (Inner node prefix key part second)
plug (InSecond node prefix key first up) part = plug up (Inner node prefix key first part)

-- the bits of an id lead along the way
abbrev pub Leads : ℕ → Path → Type 0
Leads id Root = Unit {0}
Leads id (InFirst node prefix key second up) = Begins prefix key 0 id × Leads id up
Leads id (InSecond node prefix key first up) = Begins prefix key 1 id × Leads id up

-- the number of the node at the top of a tree
abbrev pub top_of : Tree → ℕ
top_of (Leaf node order) = node
top_of (Inner node prefix key first second) = node
top_of (Other node) = node

-- the key at the top of a tree
abbrev pub top_key : Tree → ℕ
top_key (Leaf node order) = order.id
top_key (Inner node prefix key first second) = key
top_key (Other node) = 0

-- how many leading bits two keys have in common
unfoldable pub shared_bits : ℕ → ℕ → ℕ
shared_bits a b = leading_zeros w128 (bit_xor a b)

-- the bit of a key after its first n
unfoldable pub bit_behind : ℕ → ℕ → ℕ
bit_behind count key = first_bits (suc count) key % 2

-- Walks down a tree: to where a new id enters, and to the leaf of an id that rests.
use Rattle.std.specs.Prelude.{◌≡◌, ℕ, ◌<◌, ◌⊎◌, List, Option, Some, None, nat_le, if◌then◌else◌, ◌==◌}
use Rattle.dex_types.specs.declared.orders.Order.{Order}
use Rattle.dex_slab.specs.declared.nodes.Branch.{Branch}
use Rattle.dex_slab.specs.Nodes.{first_child_of, second_child_of}
use Rattle.dex_slab.specs.Path.{Path, Root, InFirst, InSecond, Leads, bit_behind, plug, shared_bits, top_key, top_of}
use Rattle.dex_slab.specs.Tree.{Tree, Leaf, Inner, Other, tree_from}

-- the tree that begins at a node
abbrev pub tree_at : List ℕ → ℕ → Tree
tree_at bytes node = tree_from 129 bytes node

-- the child of an inner node to which an id's bit leads
abbrev pub child_towards : ℕ → Branch → ℕ
child_towards id branch = if bit_behind branch.prefix id == 1 then branch.second else branch.first

-- the next node on the way of a new id: a child, where the id begins as all keys below do
abbrev pub next_towards : ℕ → Option Branch → Option ℕ
next_towards id None = None
next_towards id (Some branch) = if nat_le branch.prefix (shared_bits branch.key id) then Some (child_towards id branch) else None

-- the id does not begin as all keys of this tree do, or the tree is one leaf
abbrev pub Stops : ℕ → Tree → Type 0
Stops id (Leaf node order) = Unit {0}
Stops id (Inner node prefix key first second) = shared_bits key id < prefix
Stops id (Other node) = ⊥

-- the node is at the end of a way down the tree, along which the bits of the id lead
pub record IsOnWay (tree : Tree) (id node : ℕ) : Type 0 where
  pub path : Path
  pub part : Tree
  pub whole : plug path part ≡ tree
  pub top : top_of part ≡ node
  pub leads : Leads id path

-- a new id enters the tree at this node, with whose key it has this many leading bits in common
pub record IsInsertionPoint (tree : Tree) (id node shared : ℕ) : Type 0 where
  pub way : IsOnWay tree id node
  pub stops : Stops id way.part
  pub shares : shared ≡ shared_bits (top_key way.part) id

-- some leaf of the tree has the id
abbrev pub RestsIn : ℕ → Tree → Type 0
RestsIn id (Leaf node order) = order.id ≡ id
RestsIn id (Inner node prefix key first second) = RestsIn id first ⊎ RestsIn id second
RestsIn id (Other node) = ⊥

-- the inner node at the end of a way
abbrev pub parent_of : Path → Option ℕ
parent_of Root = None
parent_of (InFirst node prefix key second up) = Some node
parent_of (InSecond node prefix key first up) = Some node

-- the leaf of the id stands below this parent, at the end of a way along which the bits of the id lead
pub record IsFound (tree : Tree) (id : ℕ) (parent : Option ℕ) (leaf : ℕ) : Type 0 where
  pub path : Path
  pub order : Order
  pub whole : plug path (Leaf leaf order) ≡ tree
  pub same : order.id ≡ id
  pub leads : Leads id path
  pub above : parent_of path ≡ parent

-- the inner node above a new leaf and the node that it stands beside
abbrev pub branch_above : ℕ → ℕ → ℕ → ℕ → Branch
branch_above shared id leaf beside =
    if bit_behind shared id == 1
    then record { prefix = shared; key = id; first = beside; second = leaf }
    else record { prefix = shared; key = id; first = leaf; second = beside }

-- an order with this id rests on a side with this tree
abbrev pub RestsOn : ℕ → Option Tree → Type 0
RestsOn id None = ⊥
RestsOn id (Some tree) = RestsIn id tree

-- how many nodes a new order takes on a side with this many orders: its leaf, and an inner node where there are others
abbrev pub nodes_taken : ℕ → ℕ
nodes_taken count = if count == 0 then 1 else 2

-- the other child of an inner node than this one
abbrev pub sibling_of : List ℕ → ℕ → ℕ → ℕ
sibling_of bytes parent child =
    if first_child_of bytes parent == child then second_child_of bytes parent else first_child_of bytes parent

-- how many nodes an order gives back: its leaf, and the inner node above it where there are others
abbrev pub nodes_given : ℕ → ℕ
nodes_given count = if count == 1 then 1 else 2

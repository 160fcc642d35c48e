-- A side's tree: which nodes it has, what keys stand where, and which orders it lists.
use Rattle.std.specs.Prelude.{◌≡◌, ℕ, zero, suc, ◌+◌, ◌-◌, ◌*◌, ◌/◌, ◌^◌, ◌<◌, ◌≤◌, List, [], ◌∷◌, ◌++◌, if◌then◌else◌, ◌==◌}
use Rattle.dex_types.specs.declared.orders.Order.{Order}
use Rattle.dex_types.specs.declared.terms.Side.{Side}
use Rattle.dex_types.specs.BookSide.{CanRest}
use Rattle.dex_types.specs.Side.{by_side}
use Rattle.dex_slab.specs.Nodes.{first_child_of, key_of, order_of, prefix_of, second_child_of, tag_of}

-- a tree of nodes: a leaf has its number and its order; an inner node its number, prefix length, key and two trees
-- below; any other node is only met
pub data Tree : Type 0 where
  Leaf : ℕ → Order → Tree
  Inner : ℕ → ℕ → ℕ → Tree → Tree → Tree
  Other : ℕ → Tree

-- the tree that begins at a node, as far as it goes in this many steps
unfoldable pub tree_from : ℕ → List ℕ → ℕ → Tree
tree_from zero bytes node = Other node
tree_from (suc steps) bytes node =
    if tag_of bytes node == 2
    then Leaf node (order_of bytes node)
    else (if tag_of bytes node == 1
    then Inner
    node
    (prefix_of bytes node)
    (key_of bytes node)
    (tree_from steps bytes (first_child_of bytes node))
    (tree_from steps bytes (second_child_of bytes node))
    else Other node)

-- ---- what a tree has

-- the numbers of its nodes
abbrev pub nodes_of : Tree → List ℕ
nodes_of (Leaf node order) = node ∷ []
nodes_of (Inner node prefix key first second) = node ∷ nodes_of first ++ nodes_of second
nodes_of (Other node) = node ∷ []

-- its orders in book order: asks are the leaves from left to right, bids those from right to left
abbrev pub orders_of : Side → Tree → List Order
orders_of side (Leaf node order) = order ∷ []
orders_of side (Inner node prefix key first second) =
    by_side side (orders_of side second ++ orders_of side first) (orders_of side first ++ orders_of side second)
orders_of side (Other node) = []

-- how many leaves it has
abbrev pub leaves_of : Tree → ℕ
leaves_of (Leaf node order) = 1
leaves_of (Inner node prefix key first second) = leaves_of first + leaves_of second
leaves_of (Other node) = 0

-- ---- the rules of a tree

-- each node is an inner node or a leaf
abbrev pub IsKnown : Tree → Type 0
IsKnown (Leaf node order) = Unit {0}
IsKnown (Inner node prefix key first second) = IsKnown first × IsKnown second
IsKnown (Other node) = ⊥

-- each prefix is of fewer than 128 bits, and longer than the one above it
abbrev pub HasPrefixes : ℕ → Tree → Type 0
HasPrefixes least (Leaf node order) = Unit {0}
HasPrefixes least (Inner node prefix key first second) =
    (least ≤ prefix) × (prefix < 128) × HasPrefixes (suc prefix) first × HasPrefixes (suc prefix) second
HasPrefixes least (Other node) = Unit {0}

-- the first n of a key's 128 bits, as a number
unfoldable pub first_bits : ℕ → ℕ → ℕ
first_bits count key = key / 2 ^ (128 - count)

-- a key begins with the first n bits of another key, and then has this bit
abbrev pub Begins : ℕ → ℕ → ℕ → ℕ → Type 0
Begins prefix other bit key = first_bits (suc prefix) key ≡ 2 * first_bits prefix other + bit

-- every key of the tree, of a leaf or of an inner node, is such a key
abbrev pub AllKeys : (ℕ → Type 0) → Tree → Type 0
AllKeys Holds (Leaf node order) = Holds order.id
AllKeys Holds (Inner node prefix key first second) = Holds key × AllKeys Holds first × AllKeys Holds second
AllKeys Holds (Other node) = Unit {0}

-- all keys below an inner node begin with its prefix; the next bit is 0 below its first child, and 1 below its second
abbrev pub KeysAgree : Tree → Type 0
KeysAgree (Leaf node order) = Unit {0}
KeysAgree (Inner node prefix key first second) =
    AllKeys (Begins prefix key 0) first × AllKeys (Begins prefix key 1) second × KeysAgree first × KeysAgree second
KeysAgree (Other node) = Unit {0}

-- each leaf is an order that can rest
abbrev pub CanAllRest : Tree → Type 0
CanAllRest (Leaf node order) = CanRest order
CanAllRest (Inner node prefix key first second) = CanAllRest first × CanAllRest second
CanAllRest (Other node) = Unit {0}

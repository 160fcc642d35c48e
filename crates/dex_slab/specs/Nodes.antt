-- What stands in the header of a side's account, and in one of its nodes.
use Rattle.std.specs.Prelude.{ℕ, ◌+◌, ◌-◌, ◌*◌, ◌/◌, List, Option, Some, None, if◌then◌else◌, ◌==◌}
use Rattle.dex_fields.specs.declared.field.Field.{Field}
use Rattle.dex_fields.specs.declared.inner_node.TheConstants as inner
use Rattle.dex_fields.specs.declared.leaf_node.TheConstants as leaf
use Rattle.dex_fields.specs.declared.free_node.TheConstants as free
use Rattle.dex_fields.specs.declared.slab.TheConstants.{BUMP_INDEX, FREE_LIST_HEAD, FREE_LIST_LEN, LEAF_COUNT, ROOT_NODE}
use Rattle.dex_fields.specs.Bytes.{bytes_in, moved_by, number_in}
use Rattle.dex_types.specs.declared.orders.Order.{Order}
use Rattle.dex_slab.specs.declared.nodes.Branch.{Branch}

-- ---- the header

-- the first node that was never used
abbrev pub bump_of : List ℕ → ℕ
bump_of bytes = number_in bytes BUMP_INDEX

-- how many nodes are free again, and the first of them
abbrev pub free_len_of : List ℕ → ℕ
free_len_of bytes = number_in bytes FREE_LIST_LEN

abbrev pub free_head_of : List ℕ → ℕ
free_head_of bytes = number_in bytes FREE_LIST_HEAD

-- the root of the tree
abbrev pub root_of : List ℕ → ℕ
root_of bytes = number_in bytes ROOT_NODE

-- how many orders rest
abbrev pub count_of : List ℕ → ℕ
count_of bytes = number_in bytes LEAF_COUNT

-- how many nodes an account of this many bytes has
abbrev pub nodes_within : ℕ → ℕ
nodes_within size = (size - 52) / 72

-- how many orders so many nodes have room for: n orders take 2 * n - 1 nodes
abbrev pub room_of : ℕ → ℕ
room_of nodes = (nodes + 1) / 2

-- ---- a node

-- where a node stands
abbrev pub node_field : ℕ → Field
node_field node = record { at = 45 + node * 72; len = 72 }

-- a field of a node
abbrev pub in_node : ℕ → Field → Field
in_node node field = moved_by (45 + node * 72) field

-- the 72 bytes of a node
abbrev pub node_bytes : List ℕ → ℕ → List ℕ
node_bytes bytes node = bytes_in bytes (node_field node)

-- which kind of node it is: 1 an inner node, 2 a leaf, 3 a free node and 4 the last free one
abbrev pub tag_of : List ℕ → ℕ → ℕ
tag_of bytes node = number_in (node_bytes bytes node) inner.TAG

-- how many leading bits all keys below an inner node have in common
abbrev pub prefix_of : List ℕ → ℕ → ℕ
prefix_of bytes node = number_in (node_bytes bytes node) inner.PREFIX_LEN

-- a key that begins with those bits
abbrev pub key_of : List ℕ → ℕ → ℕ
key_of bytes node = number_in (node_bytes bytes node) inner.KEY

-- the node below whose keys have 0 as their next bit, and the one below whose keys have 1
abbrev pub first_child_of : List ℕ → ℕ → ℕ
first_child_of bytes node = number_in (node_bytes bytes node) inner.FIRST_CHILD

abbrev pub second_child_of : List ℕ → ℕ → ℕ
second_child_of bytes node = number_in (node_bytes bytes node) inner.SECOND_CHILD

-- the order that the bytes of a leaf say
unfoldable pub order_in : List ℕ → Order
order_in piece = record {
  id = number_in piece leaf.KEY;
  owner = record { 0 = bytes_in piece leaf.OWNER };
  slot = number_in piece leaf.OWNER_SLOT;
  tier = number_in piece leaf.FEE_TIER;
  lots = number_in piece leaf.QUANTITY;
  client = number_in piece leaf.CLIENT_ORDER_ID;
}

-- the order that a leaf is
abbrev pub order_of : List ℕ → ℕ → Order
order_of bytes node = order_in (node_bytes bytes node)

-- the free node after a free node
abbrev pub next_of : List ℕ → ℕ → ℕ
next_of bytes node = number_in (node_bytes bytes node) free.NEXT

-- what an inner node says; None of any other node
abbrev pub branch_of : List ℕ → ℕ → Option Branch
branch_of bytes node =
    if tag_of bytes node == 1
    then Some (record {
      prefix = prefix_of bytes node;
      key = key_of bytes node;
      first = first_child_of bytes node;
      second = second_child_of bytes node;
    })
    else None

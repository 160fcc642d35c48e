-- Which bytes of a side's account a call may change.
use Rattle.std.specs.Prelude.{◌≡◌, ◌≢◌, ℕ, ◌+◌, ◌*◌, ◌<◌, ◌≤◌, ◌⊎◌, List, length, slice_index}
use Rattle.dex_fields.specs.declared.field.Field.{Field}
use Rattle.dex_fields.specs.declared.leaf_node.TheConstants.{QUANTITY}
use Rattle.dex_fields.specs.Bytes.{ChangesOnly, end_of, number_in}
use Rattle.dex_slab.specs.Nodes.{in_node, key_of, node_bytes, node_field, nodes_within, tag_of}
use Rattle.dex_slab.specs.Slab.{nodes_in, times, tree_of}

-- the place is in no byte of the field
abbrev pub IsBeside : Field → ℕ → Type 0
IsBeside field place = (place < field.at) ⊎ (end_of field ≤ place)

-- the header of the slab: its bytes after the account's flags
abbrev pub header : Field
header = record { at = 13; len = 32 }

-- only the slab's header and these three nodes differ: every other node and all bytes outside of the header and the
-- nodes are as before
abbrev pub ChangesNodes : ℕ → ℕ → ℕ → List ℕ → List ℕ → Type 0
ChangesNodes a b c old new =
    (place : ℕ) → IsBeside header place → IsBeside (node_field a) place → IsBeside (node_field b) place → IsBeside (node_field c) place
    → slice_index new place ≡ slice_index old place

-- at most three nodes of the account differ, beside the slab's header
pub record ChangesThreeNodes (old new : List ℕ) : Type 0 where
  pub first : ℕ
  pub second : ℕ
  pub third : ℕ
  pub first_within : first < nodes_within (length old)
  pub second_within : second < nodes_within (length old)
  pub third_within : third < nodes_within (length old)
  pub changes : ChangesNodes first second third old new

-- only the eight bytes of a leaf's lots differ
abbrev pub ChangesLots : ℕ → List ℕ → List ℕ → Type 0
ChangesLots node old new = ChangesOnly (in_node node QUANTITY) old new

-- only this node differs
pub record ChangesNode (node : ℕ) (old new : List ℕ) : Type 0 where
  pub nodes : (other : ℕ) → other ≢ node → node_bytes new other ≡ node_bytes old other
  pub header_numbers : (field : Field) → end_of field ≤ 45 → number_in new field ≡ number_in old field
  pub places : (place : ℕ) → IsBeside (node_field node) place → slice_index new place ≡ slice_index old place

-- only the slab's header differs
pub record ChangesHeader (old new : List ℕ) : Type 0 where
  pub nodes : (node : ℕ) → node_bytes new node ≡ node_bytes old node
  pub places : (place : ℕ) → IsBeside header place → slice_index new place ≡ slice_index old place

-- only the eight bytes of the lots differ, of the leaf that is reached from the root and whose order has this id
pub record ChangesLotsOf (id : ℕ) (old new : List ℕ) : Type 0 where
  pub leaf : ℕ
  pub reached : 1 ≤ times leaf (nodes_in (tree_of old))
  pub tag : tag_of old leaf ≡ 2
  pub key : key_of old leaf ≡ id
  pub changes : ChangesLots leaf old new

-- where the slab's header and the nodes of an account of this many bytes stand: one after another, with the account's
-- flags before them and its end after them
abbrev pub slab_field : ℕ → Field
slab_field size = record { at = header.at; len = header.len + nodes_within size * 72 }

-- all bytes outside of the header and the nodes are as before: the text at the front, the flags, and whatever stands
-- after the last node, with the text at the end
pub record KeepsFrame (old new : List ℕ) : Type 0 where
  pub size : length new ≡ length old
  pub others : ChangesOnly (slab_field (length old)) old new

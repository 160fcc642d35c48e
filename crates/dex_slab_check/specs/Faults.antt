-- What the check of a slab finds: a rule that is broken, the node at which it is, and the values found and wanted
-- there.
use Rattle.std.specs.Prelude.{◌≡◌, ◌≢◌, ℕ, zero, suc, ◌+◌, ◌<◌, ◌≤◌, ◌⊎◌, List, [], ◌∷◌, ◌++◌, length}
use Rattle.dex_types.specs.declared.orders.Order.{Order}
use Rattle.dex_types.specs.Side.{price_of}
use Rattle.dex_slab_check.specs.declared.slab_fault.SlabFault.{SlabFault}
use Rattle.dex_slab.specs.Nodes.{bump_of, count_of, first_child_of, key_of, nodes_within, order_of, prefix_of, second_child_of, tag_of}
use Rattle.dex_slab.specs.Slab.{free_of, leaves_in, nodes_in, times, tree_of}
use Rattle.dex_slab.specs.Tree.{Begins}

-- the fault with this kind, node, value found and value wanted
abbrev pub fault_of : ℕ → ℕ → ℕ → ℕ → SlabFault
fault_of kind node found wanted = record { kind = kind; node = node; found = found; wanted = wanted }

-- ---- the header

-- 1: bump_index is above the number of nodes
abbrev pub BreaksBump : List ℕ → SlabFault → Type 0
BreaksBump bytes fault =
    (nodes_within (length bytes) < bump_of bytes) × (fault ≡ fault_of 1 0 (bump_of bytes) (nodes_within (length bytes)))

-- 2: leaf_count is not the number of leaves reached from the root
abbrev pub BreaksCount : List ℕ → SlabFault → Type 0
BreaksCount bytes fault =
    (count_of bytes ≢ leaves_in (tree_of bytes)) × (fault ≡ fault_of 2 0 (count_of bytes) (leaves_in (tree_of bytes)))

-- the nodes that are met: those reached from the root, and then the free ones
abbrev pub met_in : List ℕ → List ℕ
met_in bytes = nodes_in (tree_of bytes) ++ free_of bytes

-- 9: the nodes that are met are not bump_index many
abbrev pub BreaksWhole : List ℕ → SlabFault → Type 0
BreaksWhole bytes fault =
    (length (met_in bytes) ≢ bump_of bytes) × (fault ≡ fault_of 9 0 (length (met_in bytes)) (bump_of bytes))

-- 5: this node is met twice
abbrev pub BreaksOnce : List ℕ → ℕ → SlabFault → Type 0
BreaksOnce bytes node fault = (2 ≤ times node (met_in bytes)) × (fault ≡ fault_of 5 node 2 1)

-- ---- a node that is met

-- 3: it is not below bump_index
abbrev pub BreaksBelow : List ℕ → ℕ → SlabFault → Type 0
BreaksBelow bytes node fault = (bump_of bytes ≤ node) × (fault ≡ fault_of 3 node node (bump_of bytes))

-- a node of the tree is an inner node or a leaf
abbrev pub IsTreeNode : List ℕ → ℕ → Type 0
IsTreeNode bytes node = (tag_of bytes node ≡ 1) ⊎ (tag_of bytes node ≡ 2)

-- 4: it is neither an inner node nor a leaf
abbrev pub BreaksKnown : List ℕ → ℕ → SlabFault → Type 0
BreaksKnown bytes node fault = ¬ IsTreeNode bytes node × (fault ≡ fault_of 4 node (tag_of bytes node) 2)

-- 6: it is an inner node whose prefix has 128 bits or more
abbrev pub BreaksLength : List ℕ → ℕ → SlabFault → Type 0
BreaksLength bytes node fault =
    (tag_of bytes node ≡ 1) × (128 ≤ prefix_of bytes node) × (fault ≡ fault_of 6 node (prefix_of bytes node) 127)

-- 10: it is a leaf whose order has no price or no lots, or a slot or tier that there is not
abbrev pub BreaksOrder : ℕ → Order → SlabFault → Type 0
BreaksOrder node order fault =
    ((price_of order.id ≡ 0) × (fault ≡ fault_of 10 node 0 1)) ⊎ ((order.lots ≡ 0) × (fault ≡ fault_of 10 node 0 1))
    ⊎ ((128 ≤ order.slot) × (fault ≡ fault_of 10 node order.slot 127)) ⊎ ((7 ≤ order.tier) × (fault ≡ fault_of 10 node order.tier 6))

-- one of the rules that speak of a single node of the tree
abbrev pub BreaksNode : List ℕ → ℕ → SlabFault → Type 0
BreaksNode bytes node fault =
    BreaksBelow bytes node fault ⊎ BreaksKnown bytes node fault ⊎ BreaksLength bytes node fault
    ⊎ ((tag_of bytes node ≡ 2) × BreaksOrder node (order_of bytes node) fault)

-- ---- an inner node and the child whose keys have this bit next

-- 6: the child's prefix is no longer than the inner node's
abbrev pub BreaksGrowth : List ℕ → ℕ → ℕ → SlabFault → Type 0
BreaksGrowth bytes node child fault =
    (tag_of bytes child ≡ 1) × (prefix_of bytes child ≤ prefix_of bytes node)
    × (fault ≡ fault_of 6 child (prefix_of bytes child) (prefix_of bytes node + 1))

-- 7: the child's key does not begin with the inner node's prefix and then the bit
abbrev pub BreaksKey : List ℕ → ℕ → ℕ → ℕ → SlabFault → Type 0
BreaksKey bytes node bit child fault =
    IsTreeNode bytes child × ¬ Begins (prefix_of bytes node) (key_of bytes node) bit (key_of bytes child)
    × (fault ≡ fault_of 7 child (key_of bytes child) (key_of bytes node))

abbrev pub BreaksChild : List ℕ → ℕ → ℕ → ℕ → SlabFault → Type 0
BreaksChild bytes node bit child fault = BreaksGrowth bytes node child fault ⊎ BreaksKey bytes node bit child fault

-- a rule is broken at this node of the tree, or between it and one of its children
abbrev pub BreaksAt : List ℕ → ℕ → SlabFault → Type 0
BreaksAt bytes node fault =
    BreaksNode bytes node fault
    ⊎ ((tag_of bytes node ≡ 1) × BreaksChild bytes node 0 (first_child_of bytes node) fault)
    ⊎ ((tag_of bytes node ≡ 1) × BreaksChild bytes node 1 (second_child_of bytes node) fault)

-- it is broken at one of these nodes
abbrev pub BreaksAmong : List ℕ → List ℕ → SlabFault → Type 0
BreaksAmong bytes nodes fault = (node : ℕ) × (1 ≤ times node nodes) × BreaksAt bytes node fault

-- ---- the free list

-- the tag of a free node with this many others after it: 3, and 4 where it is the last
abbrev pub tag_wanted : ℕ → ℕ
tag_wanted zero = 4
tag_wanted (suc behind) = 3

-- 8: it has not the tag of its place in the free list
abbrev pub BreaksTag : List ℕ → ℕ → ℕ → SlabFault → Type 0
BreaksTag bytes node behind fault =
    (tag_of bytes node ≢ tag_wanted behind) × (fault ≡ fault_of 8 node (tag_of bytes node) (tag_wanted behind))

-- one of these free nodes is not below bump_index, or has not the tag of its place
abbrev pub BreaksFree : List ℕ → List ℕ → SlabFault → Type 0
BreaksFree bytes [] fault = ⊥
BreaksFree bytes (node ∷ others) fault =
    BreaksBelow bytes node fault ⊎ BreaksTag bytes node (length others) fault ⊎ BreaksFree bytes others fault

-- ---- the account

-- a rule of slabs is broken as the fault says: its kind, the node, and the values found and wanted
pub data IsFault (bytes : List ℕ) (fault : SlabFault) : Type 0 where
  AtBump : BreaksBump bytes fault → IsFault bytes fault
  AtCount : BreaksCount bytes fault → IsFault bytes fault
  AtNode : BreaksAmong bytes (nodes_in (tree_of bytes)) fault → IsFault bytes fault
  AtFree : BreaksFree bytes (free_of bytes) fault → IsFault bytes fault
  AtTwice : (node : ℕ) → BreaksOnce bytes node fault → IsFault bytes fault
  AtWhole : BreaksWhole bytes fault → IsFault bytes fault

-- The tree that stands at a node, and what its rules say of each of its nodes.
use Rattle.std.proofs.Common.{◌≡◌, ℕ, zero, suc, ◌<◌, ◌≤◌, inl, inr, List, [], ◌∷◌, refl, sym, subst, arith}
use Rattle.std.proofs.lemmas.Bool.Decides.{eqb_tells}
use Rattle.dex_types.specs.declared.orders.Order.{Order}
use Rattle.dex_types.specs.BookSide.{CanRest}
use Rattle.dex_slab_check.specs.Faults.{IsTreeNode}
use Rattle.dex_slab.specs.Nodes.{first_child_of, key_of, order_in, order_of, prefix_of, second_child_of, tag_of}
use Rattle.dex_slab.specs.Path.{top_of}
use Rattle.dex_slab.specs.Slab.{times}
use Rattle.dex_slab.specs.Tree.{AllKeys, Begins, CanAllRest, HasPrefixes, Inner, IsKnown, KeysAgree, Leaf, Other, Tree, nodes_of, tree_from}
use Rattle.dex_slab.proofs.Holding.{top-met, top-tree_from, tree_from-inner, tree_from-leaf, tree_from-other}
use Rattle.dex_slab_check.proofs.OnceLaws.{met_cases}

-- ---- the tree that stands at a node

tree_from-end : (bytes : List ℕ) (node : ℕ) → tree_from zero bytes node ≡ Other node
unfolding tree_from
tree_from-end bytes node = refl

-- each node of the tree is as the bytes have it
abbrev pub IsOf : List ℕ → Tree → Type 0
IsOf bytes (Leaf node order) = (tag_of bytes node ≡ 2) × (order ≡ order_of bytes node)
IsOf bytes (Inner node prefix key first second) =
    (tag_of bytes node ≡ 1) × (prefix ≡ prefix_of bytes node) × (key ≡ key_of bytes node) × (top_of first ≡ first_child_of bytes node)
    × (top_of second ≡ second_child_of bytes node) × IsOf bytes first × IsOf bytes second
IsOf bytes (Other node) = Unit {0}

-- a fact of a tree that begins at a node, by its tag
tree_cases : (P : Tree → Type 0) (s : ℕ) (bytes : List ℕ) (node : ℕ)
    → (tag_of bytes node ≡ 2 → P (Leaf node (order_of bytes node)))
    → (tag_of bytes node ≡ 1 → P (Inner node (prefix_of bytes node) (key_of bytes node) (tree_from s bytes (first_child_of bytes node)) (tree_from s bytes (second_child_of bytes node))))
    → P (Other node) → P (tree_from (suc s) bytes node)
tree_cases P s bytes node leaf inner other =
    elim (eqb_tells (tag_of bytes node) 2) [
      | inl is ↦ subst P (sym (tree_from-leaf s bytes node is.1)) (leaf is.1)
      | inr not ↦ elim (eqb_tells (tag_of bytes node) 1) [
        | inl is ↦ subst P (sym (tree_from-inner s bytes node is.1)) (inner is.1)
        | inr neither ↦ subst P (sym (tree_from-other s bytes node not.1 neither.1)) other
      ]
    ]

pub is_of : (s : ℕ) (bytes : List ℕ) (node : ℕ) → IsOf bytes (tree_from s bytes node)
is_of zero bytes node = subst (IsOf bytes) (sym (tree_from-end bytes node)) tt
is_of (suc s) bytes node =
    tree_cases (IsOf bytes) s bytes node (λ leaf. (leaf, refl))
    (λ inner. (
      inner,
      refl,
      refl,
      top-tree_from s bytes (first_child_of bytes node),
      top-tree_from s bytes (second_child_of bytes node),
      is_of s bytes (first_child_of bytes node),
      is_of s bytes (second_child_of bytes node),
    ))
    tt

-- the key of a leaf is its order's id
pub order_key : (bytes : List ℕ) (node : ℕ) → (order_of bytes node).id ≡ key_of bytes node
unfolding order_in
order_key bytes node = refl

-- a tree of one node has no other
pub only : (x node : ℕ) → 1 ≤ times x (node ∷ []) → node ≡ x
only x node at =
    elim (eqb_tells node x) [
      | inl is ↦ is.1
      | inr not ↦ absurd (omega (arith, not.1))
    ]

-- ---- what the rules of a tree say of its nodes

-- every node's key is one of the tree's keys
pub key_at : (P : ℕ → Type 0) (bytes : List ℕ) (t : Tree) (x : ℕ) → IsOf bytes t → IsKnown t → AllKeys P t → 1 ≤ times x (nodes_of t)
    → P (key_of bytes x)
key_at P bytes (Leaf node order) x of known all at =
    subst (λ n. P (key_of bytes n)) (only x node at) (subst P (order_key bytes node) (subst (λ (o : Order). P o.id) of.1 all))
key_at P bytes (Inner node prefix key first second) x of known all at =
    elim (met_cases x node (nodes_of first) (nodes_of second) at) [
      | inl here ↦ subst (λ n. P (key_of bytes n)) here (subst P of.2 all.0)
      | inr below ↦ elim below [
        | inl left ↦ key_at P bytes first x of.5 known.0 all.1 left
        | inr right ↦ key_at P bytes second x of.6 known.1 all.2 right
      ]
    ]
key_at P bytes (Other node) x of known all at = absurd known

-- every inner node's prefix is at least as long as the tree's least
pub prefix_at : (bytes : List ℕ) (least : ℕ) (t : Tree) (x : ℕ) → IsOf bytes t → IsKnown t → HasPrefixes least t → 1 ≤ times x (nodes_of t)
    → tag_of bytes x ≡ 1
    → least ≤ prefix_of bytes x
prefix_at bytes least (Leaf node order) x of known prefixes at inner =
    absurd (let tag : tag_of bytes x ≡ 2 = subst (λ n. tag_of bytes n ≡ 2) (only x node at) of.0 in omega arith)
prefix_at bytes least (Inner node prefix key first second) x of known prefixes at inner =
    elim (met_cases x node (nodes_of first) (nodes_of second) at) [
      | inl here ↦ subst (λ n. least ≤ prefix_of bytes n) here (subst (λ p. least ≤ p) of.1 prefixes.0)
      | inr below ↦ elim below [
        | inl left ↦ let deeper = prefix_at bytes (suc prefix) first x of.5 known.0 prefixes.2 left inner in let above : least ≤ prefix = prefixes.0 in omega arith
        | inr right ↦ let deeper = prefix_at bytes (suc prefix) second x of.6 known.1 prefixes.3 right inner in let above : least ≤ prefix = prefixes.0 in omega arith
      ]
    ]
prefix_at bytes least (Other node) x of known prefixes at inner = absurd known

-- what holds between an inner node of a tree that keeps the rules and a child
pub record IsFineChild (bytes : List ℕ) (node bit child : ℕ) : Type 0 where
  pub grows : tag_of bytes child ≡ 1 → prefix_of bytes node < prefix_of bytes child
  pub key : Begins (prefix_of bytes node) (key_of bytes node) bit (key_of bytes child)

-- what holds at a node of such a tree
pub record IsFine (bytes : List ℕ) (node : ℕ) : Type 0 where
  pub known : IsTreeNode bytes node
  pub short : tag_of bytes node ≡ 1 → prefix_of bytes node < 128
  pub can_rest : tag_of bytes node ≡ 2 → CanRest (order_of bytes node)
  pub first : tag_of bytes node ≡ 1 → IsFineChild bytes node 0 (first_child_of bytes node)
  pub second : tag_of bytes node ≡ 1 → IsFineChild bytes node 1 (second_child_of bytes node)

fine_leaf : (bytes : List ℕ) (node : ℕ) → tag_of bytes node ≡ 2 → CanRest (order_of bytes node) → IsFine bytes node
fine_leaf bytes node leaf can_rest = record {
  known = inr leaf;
  short = λ inner. absurd (omega arith);
  can_rest = λ _. can_rest;
  first = λ inner. absurd (omega arith);
  second = λ inner. absurd (omega arith);
}

-- the tree below an inner node, with that node's prefix and key
fine_child : (bytes : List ℕ) (node bit child : ℕ) (t : Tree) → top_of t ≡ child → IsOf bytes t → IsKnown t
    → HasPrefixes (suc (prefix_of bytes node)) t
    → AllKeys (Begins (prefix_of bytes node) (key_of bytes node) bit) t → IsFineChild bytes node bit child
fine_child bytes node bit child t is of known prefixes keys =
    subst (IsFineChild bytes node bit) is record {
      grows = λ inner. let least = prefix_at bytes (suc (prefix_of bytes node)) t (top_of t) of known prefixes (top-met t) inner in omega arith;
      key = key_at (Begins (prefix_of bytes node) (key_of bytes node) bit) bytes t (top_of t) of known keys (top-met t);
    }

fine_inner : (bytes : List ℕ) (node prefix key least : ℕ) (first second : Tree) → IsOf bytes (Inner node prefix key first second)
    → IsKnown (Inner node prefix key first second)
    → HasPrefixes least (Inner node prefix key first second) → KeysAgree (Inner node prefix key first second) → IsFine bytes node
fine_inner bytes node prefix key least first second of known prefixes keys = record {
  known = inl of.0;
  short = λ _. subst (λ p. p < 128) of.1 prefixes.1;
  can_rest = λ leaf. absurd (omega (arith, of.0));
  first = λ _. fine_child bytes node 0 (first_child_of bytes node) first of.3 of.5 known.0 (subst (λ p. HasPrefixes (suc p) first) of.1 prefixes.2)
      (subst (λ p. AllKeys (Begins p (key_of bytes node) 0) first) of.1 (subst (λ k. AllKeys (Begins prefix k 0) first) of.2 keys.0));
  second = λ _. fine_child bytes node 1 (second_child_of bytes node) second of.4 of.6 known.1 (subst (λ p. HasPrefixes (suc p) second) of.1 prefixes.3)
      (subst (λ p. AllKeys (Begins p (key_of bytes node) 1) second) of.1 (subst (λ k. AllKeys (Begins prefix k 1) second) of.2 keys.1));
}

-- every node of a tree that keeps the rules
pub fine_at : (bytes : List ℕ) (least : ℕ) (t : Tree) (x : ℕ) → IsOf bytes t → IsKnown t → HasPrefixes least t → KeysAgree t → CanAllRest t
    → 1 ≤ times x (nodes_of t) → IsFine bytes x
fine_at bytes least (Leaf node order) x of known prefixes keys rest at =
    subst (IsFine bytes) (only x node at) (fine_leaf bytes node of.0 (subst CanRest of.1 rest))
fine_at bytes least (Inner node prefix key first second) x of known prefixes keys rest at =
    elim (met_cases x node (nodes_of first) (nodes_of second) at) [
      | inl here ↦ subst (IsFine bytes) here (fine_inner bytes node prefix key least first second of known prefixes keys)
      | inr below ↦ elim below [
        | inl left ↦ fine_at bytes (suc prefix) first x of.5 known.0 prefixes.2 keys.2 rest.0 left
        | inr right ↦ fine_at bytes (suc prefix) second x of.6 known.1 prefixes.3 keys.3 rest.1 right
      ]
    ]
fine_at bytes least (Other node) x of known prefixes keys rest at = absurd known

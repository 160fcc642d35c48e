-- A side with one order: its leaf is the root.
use Rattle.std.proofs.Common.{◌≡◌, ℕ, List, [], ◌∷◌, length, Option, Some, None, inl, inr, refl, sym, ap, subst, ◌∙◌, arith, lit≤}
use Rattle.dex_fields.specs.declared.slab.TheConstants.{LEAF_COUNT, ROOT_NODE}
use Rattle.dex_fields.specs.Bytes.{with_number}
use Rattle.dex_types.specs.declared.orders.Order.{Order}
use Rattle.dex_types.specs.declared.terms.Side.{Side}
use Rattle.dex_types.specs.BookSide.{CanRest}
use Rattle.dex_types.specs.Posting.{posted}
use Rattle.dex_slab.specs.Changes.{ChangesNode}
use Rattle.dex_slab.specs.Held.{IsLeaf}
use Rattle.dex_slab.specs.Nodes.{count_of, node_bytes, root_of}
use Rattle.dex_slab.specs.Pool.{HasSpare}
use Rattle.dex_slab.specs.Slab.{IsShared, IsSlab, IsSlabSize, free_of, nodes_in, orders_in, resting, tree_of}
use Rattle.dex_slab.specs.Tree.{Tree, Leaf}
use Rattle.dex_slab.proofs.NodeWrites.{ChangesHeader-by, number_kept}
use Rattle.dex_slab.proofs.Standing.{Stands, tree_of-cases, tree_of-stands}
use Rattle.dex_slab.proofs.Written.{IsShared-written, IsWritten, written-count, written-node, written-root, written-then}

pub tree-none : (bytes : List ℕ) → count_of bytes ≡ 0 → tree_of bytes ≡ None
tree-none bytes none = elim (tree_of-cases bytes) [ inl empty ↦ empty.1 | inr some ↦ absurd (omega (arith, some.0)) ]

-- no node of an empty side is in use
pub shared-none : (bytes : List ℕ) → IsSlab bytes → count_of bytes ≡ 0 → IsShared bytes [] (free_of bytes)
shared-none bytes h none = subst (λ (o : Option Tree). IsShared bytes (nodes_in o) (free_of bytes)) (tree-none bytes none) h.shared

pub spare-none : (bytes : List ℕ) → IsSlab bytes → count_of bytes ≡ 0 → HasSpare bytes
spare-none bytes h none = record { used = []; shared = shared-none bytes h none; spare = omega (arith, h.size.some); few = h.size.few }

pub stands-first : (bytes : List ℕ) (leaf : ℕ) (order : Order) → IsSlabSize (length bytes) → IsShared bytes (leaf ∷ []) (free_of bytes) → count_of bytes ≡ 1
    → root_of bytes ≡ leaf → IsLeaf (node_bytes bytes leaf) order → CanRest order → Stands bytes (Some (Leaf leaf order))
stands-first bytes leaf order size shared count root is can_rest = record {
  size = size;
  shared = shared;
  count = count;
  good = record { known = tt; prefixes = tt; keys = tt; can_rest = can_rest };
  held = record { nodes = is; root = sym root };
}

-- the first order of a side is all that rests there
pub orders-first : (old new : List ℕ) (leaf : ℕ) (order : Order) → count_of old ≡ 0 → Stands new (Some (Leaf leaf order))
    → (side : Side) → resting side new ≡ posted side order (resting side old)
orders-first old new leaf order none stands side =
    ap (orders_in side) (tree_of-stands new (Some (Leaf leaf order)) stands) ∙ sym (ap (λ (o : Option Tree). posted side order (orders_in side o)) (tree-none old none))

-- the writes that make it, over the bytes from which a node was taken
module _ (b1 b2 b3 b4 : List ℕ) (leaf : ℕ) (changes : ChangesNode leaf b1 b2) (rooted : b3 ≡ with_number b2 ROOT_NODE leaf) (counted : b4 ≡ with_number b3 LEAF_COUNT 1) where
  pub written-first : IsWritten (leaf ∷ []) b1 b4
  written-first =
      written-then (leaf ∷ []) [] b1 b2 b4 (written-node leaf b1 b2 changes) (written-then [] [] b2 b3 b4 (written-root b2 b3 leaf rooted) (written-count b3 b4 1 counted))

  pub made-first : (order : Order) → IsSlabSize (length b1) → IsShared b1 (leaf ∷ []) (free_of b1) → IsLeaf (node_bytes b2 leaf) order
      → root_of b3 ≡ leaf → count_of b4 ≡ 1 → length b4 ≡ length b1 → CanRest order → Stands b4 (Some (Leaf leaf order))
  made-first order size shared is root count long can_rest =
      let kept : node_bytes b4 leaf ≡ node_bytes b2 leaf =
      (ChangesHeader-by b3 b4 LEAF_COUNT 1 counted (lit≤ tt) (lit≤ tt)).nodes leaf ∙ (ChangesHeader-by b2 b3 ROOT_NODE leaf rooted (lit≤ tt) (lit≤ tt)).nodes leaf in
      stands-first b4 leaf order (subst (λ (n : ℕ). IsSlabSize n) (sym long) size)
      (IsShared-written (leaf ∷ []) b1 b4 (leaf ∷ []) written-first shared (λ n none. none) long) count
      (number_kept b3 b4 LEAF_COUNT 1 ROOT_NODE counted refl ∙ root)
      (subst (λ (l : List ℕ). IsLeaf l order) (sym kept) is) can_rest

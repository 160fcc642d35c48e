-- A slab by the tree that its bytes hold, and as a side of the book.
use Rattle.std.proofs.Common.{◌≡◌, ◌≢◌, ℕ, ◌+◌, ◌≤◌, ◌⊎◌, inl, inr, List, length, Option, Some, None, IfSome, refl, sym, ap, ◌∙◌, subst, arith}
use Rattle.std.proofs.lemmas.Bool.{cases_eq, eq-eqb, ne_eqb}
use Rattle.std.proofs.lemmas.List.{length-append}
use Rattle.dex_types.specs.declared.terms.Side.{Side}
use Rattle.dex_slab.specs.Held.{Holds}
use Rattle.dex_slab.specs.Nodes.{count_of, root_of}
use Rattle.dex_slab.specs.Path.{top_of}
use Rattle.dex_slab.specs.Slab.{IsShared, IsSlab, IsSlabSize, IsTree, free_of, leaves_in, nodes_in, orders_in, resting, room_in, tree_of}
use Rattle.dex_slab.specs.Tree.{Tree, Leaf, Inner, Other, IsKnown, leaves_of, nodes_of, tree_from}
use Rattle.dex_slab.proofs.Holding.{Holds-from, top-tree_from, tree_from-held}
use Rattle.dex_slab.proofs.TreeOrders.{length-orders_of}

-- the tree is held from the root on
pub record IsHeld (bytes : List ℕ) (t : Tree) : Type 0 where
  pub nodes : Holds bytes t
  pub root : top_of t ≡ root_of bytes

-- the bytes are a slab with this tree
pub record Stands (bytes : List ℕ) (tree : Option Tree) : Type 0 where
  pub size : IsSlabSize (length bytes)
  pub shared : IsShared bytes (nodes_in tree) (free_of bytes)
  pub count : count_of bytes ≡ leaves_in tree
  pub good : IfSome tree IsTree
  pub held : IfSome tree (IsHeld bytes)

pub leaves-some : (t : Tree) → IsKnown t → 1 ≤ leaves_of t
leaves-some (Leaf node order) known = omega arith
leaves-some (Inner node prefix key first second) known = omega (arith, leaves-some first known.0)
leaves-some (Other node) known = absurd known

-- a tree of n leaves has n - 1 inner nodes
pub nodes-leaves : (t : Tree) → IsKnown t → length (nodes_of t) + 1 ≡ leaves_of t + leaves_of t
nodes-leaves (Leaf node order) known = refl
nodes-leaves (Inner node prefix key first second) known =
    omega (arith, length-append (nodes_of first) (nodes_of second), nodes-leaves first known.0, nodes-leaves second known.1)
nodes-leaves (Other node) known = absurd known

-- ---- the tree that is read is the one that is held

pub tree_of-empty : (bytes : List ℕ) → count_of bytes ≡ 0 → tree_of bytes ≡ None
unfolding tree_of
tree_of-empty bytes none = rw (eq-eqb (count_of bytes) 0 none) refl

pub tree_of-some : (bytes : List ℕ) → count_of bytes ≢ 0 → tree_of bytes ≡ Some (tree_from 129 bytes (root_of bytes))
unfolding tree_of
tree_of-some bytes some = rw (ne_eqb (count_of bytes) 0 some) refl

-- the tree that is held is the one that is read
pub tree_of-held : (bytes : List ℕ) (t : Tree) → 1 ≤ count_of bytes → IsTree t → IsHeld bytes t → tree_of bytes ≡ Some t
tree_of-held bytes t some good held =
    tree_of-some bytes (omega arith)
    ∙ ap (λ (n : ℕ). Some (tree_from 129 bytes n)) (sym held.root)
    ∙ ap (λ (u : Tree). Some u) (tree_from-held 129 bytes t 0 held.nodes good.prefixes (omega arith) (omega arith))

pub tree_of-stands : (bytes : List ℕ) (tree : Option Tree) → Stands bytes tree → tree_of bytes ≡ tree
tree_of-stands bytes None h = tree_of-empty bytes h.count
tree_of-stands bytes (Some t) h = tree_of-held bytes t (omega (arith, h.count, leaves-some t h.good.known)) h.good h.held

pub IsSlab-from : (bytes : List ℕ) (tree : Option Tree) → Stands bytes tree → IsSlab bytes
IsSlab-from bytes tree h =
    let is : tree ≡ tree_of bytes = sym (tree_of-stands bytes tree h) in
    record {
      size = h.size;
      shared = subst (λ (o : Option Tree). IsShared bytes (nodes_in o) (free_of bytes)) is h.shared;
      count = subst (λ (o : Option Tree). count_of bytes ≡ leaves_in o) is h.count;
      tree = subst (λ (o : Option Tree). IfSome o IsTree) is h.good;
    }

-- which tree it is
pub tree_of-cases : (bytes : List ℕ) → ((count_of bytes ≡ 0) × (tree_of bytes ≡ None))
    ⊎ ((1 ≤ count_of bytes) × (tree_of bytes ≡ Some (tree_from 129 bytes (root_of bytes))))
tree_of-cases bytes =
    elim (cases_eq (count_of bytes) 0) [
      | inl none ↦ inl (none, tree_of-empty bytes none)
      | inr some ↦ inr (omega arith, tree_of-some bytes some)
    ]

held_of : (bytes : List ℕ) → IfSome (tree_of bytes) IsTree → IfSome (tree_of bytes) (IsHeld bytes)
held_of bytes good =
    elim (tree_of-cases bytes) [
      | inl none ↦ subst (λ (o : Option Tree). IfSome o (IsHeld bytes)) (sym none.1) tt
      | inr some ↦
          let t : Tree = tree_from 129 bytes (root_of bytes) in
          let known : IsTree t = subst (λ (o : Option Tree). IfSome o IsTree) some.1 good in
          subst (λ (o : Option Tree). IfSome o (IsHeld bytes)) (sym some.1)
          (record { nodes = Holds-from 129 bytes (root_of bytes) known.known; root = top-tree_from 129 bytes (root_of bytes) })
    ]

pub stands_of : (bytes : List ℕ) → IsSlab bytes → Stands bytes (tree_of bytes)
stands_of bytes h = record { size = h.size; shared = h.shared; count = h.count; good = h.tree; held = held_of bytes h.tree }

-- ---- how many orders there are

-- how many orders a slab lists
pub length-orders_in : (side : Side) (tree : Option Tree) → length (orders_in side tree) ≡ leaves_in tree
length-orders_in side None = refl
length-orders_in side (Some t) = length-orders_of side t

pub leaves-room : (bytes : List ℕ) (tree : Option Tree) → Stands bytes tree → leaves_in tree ≤ room_in bytes
leaves-room bytes None h = omega arith
leaves-room bytes (Some t) h =
    omega (arith, nodes-leaves t h.good.known, length-append (nodes_of t) (free_of bytes), h.shared.whole, h.shared.bump)

-- the header counts the orders that rest
pub count-listed : (side : Side) (bytes : List ℕ) → IsSlab bytes → length (resting side bytes) ≡ count_of bytes
count-listed side bytes h = length-orders_in side (tree_of bytes) ∙ sym h.count

-- which are no more than there is room for
pub count-room : (bytes : List ℕ) → IsSlab bytes → count_of bytes ≤ room_in bytes
count-room bytes slab = omega (arith, slab.count, leaves-room bytes (tree_of bytes) (stands_of bytes slab))

-- The only order of a side leaves it.
use Rattle.std.proofs.Common.{◌≡◌, ℕ, List, [], ◌∷◌, length, None, refl, sym, ap, subst, ◌∙◌, arith}
use Rattle.dex_fields.specs.declared.slab.TheConstants.{LEAF_COUNT, ROOT_NODE}
use Rattle.dex_fields.specs.Bytes.{with_number}
use Rattle.dex_types.specs.declared.terms.Side.{Side}
use Rattle.dex_slab.specs.Nodes.{count_of, root_of}
use Rattle.dex_slab.specs.Path.{top_of}
use Rattle.dex_slab.specs.Slab.{IsShared, IsSlab, IsSlabSize, free_of, orders_in, resting}
use Rattle.dex_slab.specs.Tree.{Tree, nodes_of}
use Rattle.dex_slab.specs.Walks.{tree_at}
use Rattle.dex_slab.proofs.BesideLaw.{leaves_rooted}
use Rattle.dex_slab.proofs.Retop.{nodes-top, rest_of}
use Rattle.dex_slab.proofs.Standing.{Stands, nodes-leaves, tree_of-stands}
use Rattle.dex_slab.proofs.WalkLaw.{Rooted, rooted}
use Rattle.dex_slab.proofs.Written.{IsShared-written, IsWritten, written-count, written-root, written-then}

none_left : (xs : List ℕ) → length xs ≡ 0 → xs ≡ []
none_left [] none = refl
none_left (x ∷ xs) none = absurd (omega arith)

-- the root is the only node in use
pub shared-only : (bytes : List ℕ) → IsSlab bytes → count_of bytes ≡ 1 → IsShared bytes (root_of bytes ∷ []) (free_of bytes)
shared-only bytes slab one =
    let r : Rooted bytes = rooted bytes slab (omega arith) in
    let t : Tree = tree_at bytes (root_of bytes) in
    let few : length (rest_of t) ≡ 0 =
    omega (arith, leaves_rooted bytes slab r, nodes-leaves t r.good.known, ap (λ (l : List ℕ). length l) (nodes-top t)) in
    let nodes : nodes_of t ≡ root_of bytes ∷ [] =
    nodes-top t ∙ ap (λ (l : List ℕ). top_of t ∷ l) (none_left (rest_of t) few) ∙ ap (λ (n : ℕ). n ∷ []) r.held.root in
    subst (λ (l : List ℕ). IsShared bytes l (free_of bytes)) nodes r.shared

-- the writes that empty a side, over the bytes to which its root was given back
module _ (b1 b2 new : List ℕ) (emptied : b2 ≡ with_number b1 ROOT_NODE 0) (counted : new ≡ with_number b2 LEAF_COUNT 0) where
  pub written-only : IsWritten [] b1 new
  written-only = written-then [] [] b1 b2 new (written-root b1 b2 0 emptied) (written-count b2 new 0 counted)

  pub stands-empty : IsSlabSize (length b1) → IsShared b1 [] (free_of b1) → count_of new ≡ 0 → length new ≡ length b1 → Stands new None
  stands-empty size shared none long = record {
    size = subst (λ (n : ℕ). IsSlabSize n) (sym long) size;
    shared = IsShared-written [] b1 new [] written-only shared (λ n gone. refl) long;
    count = none;
    good = tt;
    held = tt;
  }

pub orders-empty : (bytes : List ℕ) → Stands bytes None → (side : Side) → resting side bytes ≡ []
orders-empty bytes h side = ap (orders_in side) (tree_of-stands bytes None h)

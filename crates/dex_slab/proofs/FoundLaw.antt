-- The leaf that a search ends at is the order that rests.
use Rattle.std.proofs.Common.{◌≡◌, ◌≢◌, ℕ, ◌<◌, ◌≤◌, List, [], ◌∷◌, ◌++◌, length, Option, Some, None, IsSome, inl, inr, refl, sym, ap, subst, ◌∙◌, arith}
use Rattle.std.proofs.lemmas.Bool.{cases_eq, eq-eqb, ne_eqb}
use Rattle.dex_types.specs.declared.orders.Order.{Order}
use Rattle.dex_types.specs.declared.terms.Side.{Side}
use Rattle.dex_types.specs.declared.terms.Side.TheVariants.{Bid, Ask}
use Rattle.dex_types.specs.Cancel.{order_with, without_order}
use Rattle.dex_slab.specs.Held.{Holds}
use Rattle.dex_slab.specs.Nodes.{count_of, nodes_within, order_of, root_of}
use Rattle.dex_slab.specs.Path.{Path, Root, InFirst, InSecond, plug}
use Rattle.dex_slab.specs.Slab.{IsSlab, IsTree, orders_in, resting, times, tree_of}
use Rattle.dex_slab.specs.Tree.{Tree, Leaf, Inner, Other, IsKnown, leaves_of, nodes_of, orders_of}
use Rattle.dex_slab.specs.Walks.{IsFound, RestsIn, RestsOn, nodes_given, parent_of, tree_at}
use Rattle.dex_slab.proofs.BesideLaw.{leaves_rooted}
use Rattle.dex_slab.proofs.Holding.{Holds-part}
use Rattle.dex_slab.proofs.IdLists.{AllIds, AllIds-new, HasId, HasId-found}
use Rattle.dex_slab.proofs.Leaving.{order-found}
use Rattle.dex_slab.proofs.Plugs.{known-part, leaves-plug, times-plug}
use Rattle.dex_slab.proofs.PoolLaw.{used-below}
use Rattle.dex_slab.proofs.Somes.{none_some}
use Rattle.dex_slab.proofs.Standing.{leaves-some, tree_of-cases}
use Rattle.dex_slab.proofs.TreeOrders.{RestsIn-from}
use Rattle.dex_slab.proofs.WalkLaw.{Rooted}

-- a side on which an order rests is not empty
pub rests-some : (bytes : List ℕ) (id : ℕ) → RestsOn id (tree_of bytes) → 1 ≤ count_of bytes
rests-some bytes id rests =
    elim (tree_of-cases bytes) [
      | inl none ↦ absurd (subst (λ (o : Option Tree). RestsOn id o) none.1 rests)
      | inr some ↦ some.0
    ]

pub rests-in : (bytes : List ℕ) (id : ℕ) → Rooted bytes → RestsOn id (tree_of bytes) → RestsIn id (tree_at bytes (root_of bytes))
rests-in bytes id r rests = subst (λ (o : Option Tree). RestsOn id o) r.is rests

-- an order of the side's list rests
pub RestsOn-from : (side : Side) (id : ℕ) (tree : Option Tree) → IsSome (order_with id (orders_in side tree)) → RestsOn id tree
RestsOn-from side id None h = HasId-found id [] h
RestsOn-from side id (Some t) h = RestsIn-from side id t (HasId-found id (orders_of side t) h)

module _ (bytes : List ℕ) (r : Rooted bytes) (id leaf : ℕ) (parent : Option ℕ) (f : IsFound (tree_at bytes (root_of bytes)) id parent leaf) where
  good : IsTree (plug f.path (Leaf leaf f.order))
  good = subst (λ (t : Tree). IsTree t) (sym f.whole) r.good

  held : Holds bytes (plug f.path (Leaf leaf f.order))
  held = subst (λ (t : Tree). Holds bytes t) (sym f.whole) r.held.nodes

  -- the order as it is read
  pub order-read : order_of bytes leaf ≡ f.order
  order-read = (Holds-part bytes f.path (Leaf leaf f.order) held).said

  -- and as it stands in the list
  pub order-listed : (side : Side) → order_with id (resting side bytes) ≡ Some f.order
  order-listed side =
      ap (λ (o : Option Tree). order_with id (orders_in side o)) r.is
      ∙ ap (λ (t : Tree). order_with id (orders_of side t)) (sym f.whole)
      ∙ order-found side id leaf f.order f.path good f.leads f.same

  -- its node lies in the account
  pub leaf-below : leaf < nodes_within (length bytes)
  leaf-below =
      used-below bytes (nodes_of (tree_at bytes (root_of bytes))) leaf r.shared
      (subst (λ (t : Tree). 1 ≤ times leaf (nodes_of t)) f.whole (omega (arith, times-plug leaf f.path (Leaf leaf f.order))))

-- with no inner node above it, it is the only one
whole_leaf : (path : Path) (leaf : ℕ) (order : Order) → parent_of path ≡ None → plug path (Leaf leaf order) ≡ Leaf leaf order
whole_leaf Root leaf order above = refl
whole_leaf (InFirst node prefix key second up) leaf order above = absurd (none_some node (sym above))
whole_leaf (InSecond node prefix key first up) leaf order above = absurd (none_some node (sym above))

module _ (bytes : List ℕ) (slab : IsSlab bytes) (r : Rooted bytes) (id leaf : ℕ) (f : IsFound (tree_at bytes (root_of bytes)) id None leaf) where
  only_leaf : tree_at bytes (root_of bytes) ≡ Leaf leaf f.order
  only_leaf = sym f.whole ∙ whole_leaf f.path leaf f.order f.above

  pub count-only : count_of bytes ≡ 1
  count-only = leaves_rooted bytes slab r ∙ ap (λ (t : Tree). leaves_of t) only_leaf

  pub without-only : (side : Side) → without_order id (resting side bytes) ≡ []
  without-only side =
      ap (λ (o : Option Tree). without_order id (orders_in side o)) r.is
      ∙ ap (λ (t : Tree). without_order id (orders_of side t)) only_leaf
      ∙ alone where
        alone : without_order id (f.order ∷ []) ≡ []
        alone = rw (eq-eqb f.order.id id f.same) refl

-- with one above it, it is not
leaves_above : (path : Path) (leaf parent : ℕ) (order : Order) → parent_of path ≡ Some parent → IsKnown (plug path (Leaf leaf order))
    → 2 ≤ leaves_of (plug path (Leaf leaf order))
leaves_above Root leaf parent order above known = absurd (none_some parent above)
leaves_above (InFirst node prefix key second up) leaf parent order above known =
    omega (arith, leaves-plug up (Inner node prefix key (Leaf leaf order) second), leaves-some second (known-part up (Inner node prefix key (Leaf leaf order) second) known).1)
leaves_above (InSecond node prefix key first up) leaf parent order above known =
    omega (arith, leaves-plug up (Inner node prefix key first (Leaf leaf order)), leaves-some first (known-part up (Inner node prefix key first (Leaf leaf order)) known).0)

pub count-more : (bytes : List ℕ) → IsSlab bytes → (r : Rooted bytes) → (id leaf parent : ℕ)
    → IsFound (tree_at bytes (root_of bytes)) id (Some parent) leaf → 2 ≤ count_of bytes
count-more bytes slab r id leaf parent f =
    let known : IsKnown (plug f.path (Leaf leaf f.order)) = subst (λ (t : Tree). IsKnown t) (sym f.whole) r.good.known in
    omega (arith, leaves_rooted bytes slab r, ap (λ (t : Tree). leaves_of t) f.whole, leaves_above f.path leaf parent f.order f.above known)

-- how many nodes are given back
pub given-one : (count : ℕ) → count ≡ 1 → nodes_given count ≡ 1
given-one count one = rw (eq-eqb count 1 one) refl

pub given-two : (count : ℕ) → 2 ≤ count → nodes_given count ≡ 2
given-two count more = rw (ne_eqb count 1 (omega arith)) refl

pub given-some : (count : ℕ) → 1 ≤ nodes_given count
given-some count =
    elim (cases_eq count 1) [
      | inl one ↦ omega (arith, given-one count one)
      | inr other ↦ rw (ne_eqb count 1 other) (omega arith)
    ]

-- ---- an order of the tree is one of the list

HasId-front : (id : ℕ) (xs ys : List Order) → HasId id xs → HasId id (xs ++ ys)
HasId-front id [] ys h = absurd h
HasId-front id (x ∷ xs) ys (inl same) = inl same
HasId-front id (x ∷ xs) ys (inr others) = inr (HasId-front id xs ys others)

HasId-back : (id : ℕ) (xs ys : List Order) → HasId id ys → HasId id (xs ++ ys)
HasId-back id [] ys h = h
HasId-back id (x ∷ xs) ys h = inr (HasId-back id xs ys h)

HasId-of : (side : Side) (id : ℕ) (t : Tree) → RestsIn id t → HasId id (orders_of side t)
HasId-of side id (Leaf node order) same = inl same
HasId-of Bid id (Inner node prefix key first second) (inl here) = HasId-back id (orders_of Bid second) (orders_of Bid first) (HasId-of Bid id first here)
HasId-of Bid id (Inner node prefix key first second) (inr there) = HasId-front id (orders_of Bid second) (orders_of Bid first) (HasId-of Bid id second there)
HasId-of Ask id (Inner node prefix key first second) (inl here) = HasId-front id (orders_of Ask first) (orders_of Ask second) (HasId-of Ask id first here)
HasId-of Ask id (Inner node prefix key first second) (inr there) = HasId-back id (orders_of Ask first) (orders_of Ask second) (HasId-of Ask id second there)
HasId-of side id (Other node) none = absurd none

HasId-none : (id : ℕ) (xs : List Order) → AllIds (λ other. other ≢ id) xs → HasId id xs → ⊥
HasId-none id [] h none = none
HasId-none id (x ∷ xs) h (inl same) = h.0 same
HasId-none id (x ∷ xs) h (inr others) = HasId-none id xs h.1 others

-- a new id does not rest
pub new-rests : (side : Side) (id : ℕ) (tree : Option Tree) → order_with id (orders_in side tree) ≡ None → RestsOn id tree → ⊥
new-rests side id None new rests = rests
new-rests side id (Some t) new rests = HasId-none id (orders_of side t) (AllIds-new id (orders_of side t) new) (HasId-of side id t rests)

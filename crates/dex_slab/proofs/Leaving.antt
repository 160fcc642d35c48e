-- A tree without one of its leaves: the leaf's sibling takes the place of the inner node above both.
use Rattle.std.proofs.Common.{◌≡◌, ◌≢◌, ℕ, suc, ◌+◌, ◌≤◌, true, List, [], ◌∷◌, ◌++◌, length, append_assoc, Some, sym, ap, subst, ◌∙◌, arith}
use borrow.Author.Tests.{ltb-true}
use Rattle.std.proofs.lemmas.List.{length-append}
use Rattle.dex_types.specs.declared.orders.Order.{Order}
use Rattle.dex_types.specs.declared.terms.Side.{Side}
use Rattle.dex_types.specs.declared.terms.Side.TheVariants.{Bid, Ask}
use Rattle.dex_types.specs.Cancel.{order_with, without_order}
use Rattle.dex_types.specs.Side.{precedes}
use Rattle.dex_slab.specs.Path.{Path, Root, InFirst, InSecond, Leads, plug, top_of}
use Rattle.dex_slab.specs.Slab.{IsTree, times}
use Rattle.dex_slab.specs.Tree.{Tree, Leaf, Inner, Other, HasPrefixes, leaves_of, nodes_of, orders_of}
use Rattle.dex_slab.specs.Walks.{parent_of}
use Rattle.dex_slab.proofs.Holding.{top-plug}
use Rattle.dex_slab.proofs.IdLists.{AllIds, AllIds-map, order_with-behind, without_order-behind}
use Rattle.dex_slab.proofs.Plugs.{keys-part, keys-plug, known-part, known-plug, leaves-plug, least_at, nodes-plug, prefixes-part, prefixes-plug, rest-part, rest-plug, times-plug}
use Rattle.dex_slab.proofs.Retop.{agree-retop, keys-retop, known-retop, leaves-retop, nodes-retop, nodes-top, orders-retop, prefixes-retop, rest-retop, retop, top-retop}
use Rattle.dex_slab.proofs.Somes.{none_some, same_some}
use Rattle.dex_slab.proofs.Times.{times-append}
use Rattle.dex_slab.proofs.TreeOrders.{before, before-precedes, behind, orders-plug}

-- the tree that is left without what stands at the end of a way
abbrev pub left : Path → Tree
left Root = Other 0
left (InFirst node prefix key second up) = plug up (retop node second)
left (InSecond node prefix key first up) = plug up (retop node first)

-- what stands beside the end of a way
abbrev pub beside : Path → Tree
beside Root = Other 0
beside (InFirst node prefix key second up) = second
beside (InSecond node prefix key first up) = first

HasPrefixes-fewer : (least more : ℕ) (t : Tree) → least ≤ more → HasPrefixes more t → HasPrefixes least t
HasPrefixes-fewer least more (Leaf node order) le h = tt
HasPrefixes-fewer least more (Inner node prefix key first second) le h = (omega arith, h.1, h.2, h.3)
HasPrefixes-fewer least more (Other node) le h = tt

module _ (id leaf parent : ℕ) (order : Order) where
  -- the rules of a tree hold of what is left
  pub good_left : (path : Path) → parent_of path ≡ Some parent → IsTree (plug path (Leaf leaf order)) → Leads id path → IsTree (left path)
  good_left Root above good leads = absurd (none_some parent above)
  good_left (InFirst node prefix key second up) above good leads =
      let part : Tree = Inner node prefix key (Leaf leaf order) second in
      let prefixed = prefixes-part up part good.prefixes in
      record {
        known = known-plug up part (retop node second) good.known (known-retop node second (known-part up part good.known).1);
        prefixes = prefixes-plug up part (retop node second) good.prefixes
            (prefixes-retop node (least_at up) second (HasPrefixes-fewer (least_at up) (suc prefix) second (omega (arith, prefixed.0)) prefixed.3));
        keys = keys-plug id up part (retop node second) good.keys leads.1 (agree-retop node second (keys-part up part good.keys).3)
            (λ Fact here all. keys-retop node Fact second all.2);
        can_rest = rest-plug up part (retop node second) good.can_rest (rest-retop node second (rest-part up part good.can_rest).1);
      }
  good_left (InSecond node prefix key first up) above good leads =
      let part : Tree = Inner node prefix key first (Leaf leaf order) in
      let prefixed = prefixes-part up part good.prefixes in
      record {
        known = known-plug up part (retop node first) good.known (known-retop node first (known-part up part good.known).0);
        prefixes = prefixes-plug up part (retop node first) good.prefixes
            (prefixes-retop node (least_at up) first (HasPrefixes-fewer (least_at up) (suc prefix) first (omega (arith, prefixed.0)) prefixed.2));
        keys = keys-plug id up part (retop node first) good.keys leads.1 (agree-retop node first (keys-part up part good.keys).2)
            (λ Fact here all. keys-retop node Fact first all.1);
        can_rest = rest-plug up part (retop node first) good.can_rest (rest-retop node first (rest-part up part good.can_rest).0);
      }

  -- one leaf less
  pub leaves_left : (path : Path) → parent_of path ≡ Some parent → leaves_of (plug path (Leaf leaf order)) ≡ leaves_of (left path) + 1
  leaves_left Root above = absurd (none_some parent above)
  leaves_left (InFirst node prefix key second up) above =
      omega (arith, leaves-plug up (Inner node prefix key (Leaf leaf order) second), leaves-plug up (retop node second), leaves-retop node second)
  leaves_left (InSecond node prefix key first up) above =
      omega (arith, leaves-plug up (Inner node prefix key first (Leaf leaf order)), leaves-plug up (retop node first), leaves-retop node first)

  -- the leaf's node and the sibling's old one are not in use any more
  pub times_left : (path : Path) → parent_of path ≡ Some parent
      → (n : ℕ) → times n (top_of (beside path) ∷ leaf ∷ nodes_of (left path)) ≡ times n (nodes_of (plug path (Leaf leaf order)))
  times_left Root above n = absurd (none_some parent above)
  times_left (InFirst node prefix key second up) above n =
      omega (
        arith,
        times-plug n up (Inner node prefix key (Leaf leaf order) second),
        times-plug n up (retop node second),
        ap (times n) (nodes-retop node second),
        ap (times n) (nodes-top second),
      )
  times_left (InSecond node prefix key first up) above n =
      omega (
        arith,
        times-plug n up (Inner node prefix key first (Leaf leaf order)),
        times-plug n up (retop node first),
        ap (times n) (nodes-retop node first),
        ap (times n) (nodes-top first),
        times-append n (nodes_of first) (leaf ∷ []),
      )

  pub length_left : (path : Path) → parent_of path ≡ Some parent
      → length (top_of (beside path) ∷ leaf ∷ nodes_of (left path)) ≡ length (nodes_of (plug path (Leaf leaf order)))
  length_left Root above = absurd (none_some parent above)
  length_left (InFirst node prefix key second up) above =
      omega (
        arith,
        nodes-plug up (Inner node prefix key (Leaf leaf order) second),
        nodes-plug up (retop node second),
        ap (λ (l : List ℕ). length l) (nodes-retop node second),
        ap (λ (l : List ℕ). length l) (nodes-top second),
      )
  length_left (InSecond node prefix key first up) above =
      omega (
        arith,
        nodes-plug up (Inner node prefix key first (Leaf leaf order)),
        nodes-plug up (retop node first),
        ap (λ (l : List ℕ). length l) (nodes-retop node first),
        ap (λ (l : List ℕ). length l) (nodes-top first),
        length-append (nodes_of first) (leaf ∷ []),
      )

  -- the inner node above is in use still
  pub parent_left : (path : Path) → parent_of path ≡ Some parent → 1 ≤ times parent (nodes_of (left path))
  parent_left Root above = absurd (none_some parent above)
  parent_left (InFirst node prefix key second up) above =
      subst (λ (n : ℕ). 1 ≤ times n (nodes_of (plug up (retop node second)))) (same_some node parent above)
      (omega (arith, times-plug node up (retop node second), ap (times node) (nodes-retop node second)))
  parent_left (InSecond node prefix key first up) above =
      subst (λ (n : ℕ). 1 ≤ times n (nodes_of (plug up (retop node first)))) (same_some node parent above)
      (omega (arith, times-plug node up (retop node first), ap (times node) (nodes-retop node first)))

  pub top_left : (path : Path) → parent_of path ≡ Some parent → top_of (left path) ≡ top_of (plug path (Leaf leaf order))
  top_left Root above = absurd (none_some parent above)
  top_left (InFirst node prefix key second up) above =
      top-plug up (retop node second) (Inner node prefix key (Leaf leaf order) second) (top-retop node second)
  top_left (InSecond node prefix key first up) above =
      top-plug up (retop node first) (Inner node prefix key first (Leaf leaf order)) (top-retop node first)

-- ---- orders

-- the orders that are left are those before the leaf and those after it
orders_left : (side : Side) (path : Path) (parent : ℕ) → parent_of path ≡ Some parent → orders_of side (left path) ≡ before side path ++ behind side path
orders_left side Root parent above = absurd (none_some parent above)
orders_left Ask (InFirst node prefix key second up) parent above =
    orders-plug Ask up (retop node second) ∙ ap (λ (l : List Order). before Ask up ++ (l ++ behind Ask up)) (orders-retop node Ask second)
orders_left Ask (InSecond node prefix key first up) parent above =
    orders-plug Ask up (retop node first) ∙ ap (λ (l : List Order). before Ask up ++ (l ++ behind Ask up)) (orders-retop node Ask first)
    ∙ sym (append_assoc (before Ask up) (orders_of Ask first) (behind Ask up))
orders_left Bid (InFirst node prefix key second up) parent above =
    orders-plug Bid up (retop node second) ∙ ap (λ (l : List Order). before Bid up ++ (l ++ behind Bid up)) (orders-retop node Bid second)
    ∙ sym (append_assoc (before Bid up) (orders_of Bid second) (behind Bid up))
orders_left Bid (InSecond node prefix key first up) parent above =
    orders-plug Bid up (retop node first) ∙ ap (λ (l : List Order). before Bid up ++ (l ++ behind Bid up)) (orders-retop node Bid first)

-- an id that stands before another one is another id
other_id : (side : Side) (id other : ℕ) → precedes side other id ≡ true → other ≢ id
other_id Bid id other before_it e = absurd (omega (arith, ltb-true id other before_it))
other_id Ask id other before_it e = absurd (omega (arith, ltb-true other id before_it))

module _ (side : Side) (id leaf : ℕ) (order : Order) (path : Path) (good : IsTree (plug path (Leaf leaf order))) (leads : Leads id path) (is : order.id ≡ id) where
  pub others_before : AllIds (λ other. other ≢ id) (before side path)
  others_before =
      AllIds-map (λ other. precedes side other id ≡ true) (λ other. other ≢ id) (λ other before_it. other_id side id other before_it) (before side path)
      (before-precedes side id path (Leaf leaf order) good.keys leads)

  -- the leaf's order is the one that is found
  pub order-found : order_with id (orders_of side (plug path (Leaf leaf order))) ≡ Some order
  order-found =
      ap (order_with id) (orders-plug side path (Leaf leaf order)) ∙ order_with-behind id (before side path) order (behind side path) others_before is

  -- and the one without which the others are left
  pub orders-left : (parent : ℕ) → parent_of path ≡ Some parent
      → orders_of side (left path) ≡ without_order id (orders_of side (plug path (Leaf leaf order)))
  orders-left parent above =
      orders_left side path parent above
      ∙ sym (ap (without_order id) (orders-plug side path (Leaf leaf order)) ∙ without_order-behind id (before side path) order (behind side path) others_before is)

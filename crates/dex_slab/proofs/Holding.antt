-- Which tree the bytes of an account hold.
use Rattle.std.proofs.Common.{◌≡◌, ◌≢◌, ℕ, zero, suc, ◌+◌, ◌≤◌, List, [], ◌∷◌, ◌++◌, refl, sym, ap, ◌∙◌, subst, arith, inl, inr}
use Rattle.std.proofs.lemmas.Bool.{cases_eq, eq-eqb, ne_eqb}
use Rattle.dex_types.specs.declared.orders.Order.{Order}
use Rattle.dex_slab.specs.Held.{Holds, IsInner, IsLeaf}
use Rattle.dex_slab.specs.Nodes.{first_child_of, key_of, node_bytes, order_of, prefix_of, second_child_of, tag_of}
use Rattle.dex_slab.specs.Path.{Path, Root, InFirst, InSecond, plug, top_of}
use Rattle.dex_slab.specs.Slab.{times}
use Rattle.dex_slab.specs.Tree.{Tree, Leaf, Inner, Other, HasPrefixes, IsKnown, nodes_of, tree_from}
use Rattle.dex_slab.proofs.Plugs.{path_nodes}
use Rattle.dex_slab.proofs.Times.{times-append}

-- ---- what stays

-- these nodes are as before
abbrev pub AreSame : List ℕ → List ℕ → List ℕ → Type 0
AreSame nodes old new = (n : ℕ) → 1 ≤ times n nodes → node_bytes new n ≡ node_bytes old n

pub AreSame-front : (xs ys : List ℕ) (old new : List ℕ) → AreSame (xs ++ ys) old new → AreSame xs old new
AreSame-front xs ys old new h n met = h n (omega (arith, times-append n xs ys))

pub AreSame-back : (xs ys : List ℕ) (old new : List ℕ) → AreSame (xs ++ ys) old new → AreSame ys old new
AreSame-back xs ys old new h n met = h n (omega (arith, times-append n xs ys))

pub AreSame-head : (x : ℕ) (xs : List ℕ) (old new : List ℕ) → AreSame (x ∷ xs) old new → node_bytes new x ≡ node_bytes old x
AreSame-head x xs old new h = h x (omega arith)

pub AreSame-tail : (x : ℕ) (xs : List ℕ) (old new : List ℕ) → AreSame (x ∷ xs) old new → AreSame xs old new
AreSame-tail x xs old new h n met = h n (omega arith)

pub Holds-same : (old new : List ℕ) (t : Tree) → Holds old t → AreSame (nodes_of t) old new → Holds new t
Holds-same old new (Leaf node order) h kept = subst (λ (l : List ℕ). IsLeaf l order) (sym (AreSame-head node [] old new kept)) h
Holds-same old new (Inner node prefix key first second) h kept =
    let below = AreSame-tail node (nodes_of first ++ nodes_of second) old new kept in (
      subst (λ (l : List ℕ). IsInner l prefix key (top_of first) (top_of second)) (sym (AreSame-head node (nodes_of first ++ nodes_of second) old new kept)) h.0,
      Holds-same old new first h.1 (AreSame-front (nodes_of first) (nodes_of second) old new below),
      Holds-same old new second h.2 (AreSame-back (nodes_of first) (nodes_of second) old new below),
    )
Holds-same old new (Other node) h kept = h

pub Holds-part : (bytes : List ℕ) (path : Path) (t : Tree) → Holds bytes (plug path t) → Holds bytes t
Holds-part bytes Root t h = h
Holds-part bytes (InFirst node prefix key second up) t h = (Holds-part bytes up (Inner node prefix key t second) h).1
Holds-part bytes (InSecond node prefix key first up) t h = (Holds-part bytes up (Inner node prefix key first t) h).2

-- a part yields to another one with the same node at its top, and the way and what stands beside it stay
pub Holds-plug : (old new : List ℕ) (path : Path) (t u : Tree) → Holds old (plug path t) → Holds new u → top_of u ≡ top_of t
    → AreSame (path_nodes path) old new → Holds new (plug path u)
Holds-plug old new Root t u h held top kept = held
Holds-plug old new (InFirst node prefix key second up) t u h held top kept =
    let before = Holds-part old up (Inner node prefix key t second) h in
    let below = AreSame-tail node (nodes_of second ++ path_nodes up) old new kept in
    let here : IsInner (node_bytes new node) prefix key (top_of t) (top_of second) =
    subst (λ (l : List ℕ). IsInner l prefix key (top_of t) (top_of second)) (sym (AreSame-head node (nodes_of second ++ path_nodes up) old new kept)) before.0 in
    Holds-plug old new up (Inner node prefix key t second) (Inner node prefix key u second) h (
      subst (λ (n : ℕ). IsInner (node_bytes new node) prefix key n (top_of second)) (sym top) here,
      held,
      Holds-same old new second before.2 (AreSame-front (nodes_of second) (path_nodes up) old new below),
    )
    refl (AreSame-back (nodes_of second) (path_nodes up) old new below)
Holds-plug old new (InSecond node prefix key first up) t u h held top kept =
    let before = Holds-part old up (Inner node prefix key first t) h in
    let below = AreSame-tail node (nodes_of first ++ path_nodes up) old new kept in
    let here : IsInner (node_bytes new node) prefix key (top_of first) (top_of t) =
    subst (λ (l : List ℕ). IsInner l prefix key (top_of first) (top_of t)) (sym (AreSame-head node (nodes_of first ++ path_nodes up) old new kept)) before.0 in
    Holds-plug old new up (Inner node prefix key first t) (Inner node prefix key first u) h (
      subst (λ (n : ℕ). IsInner (node_bytes new node) prefix key (top_of first) n) (sym top) here,
      Holds-same old new first before.1 (AreSame-front (nodes_of first) (path_nodes up) old new below),
      held,
    )
    refl (AreSame-back (nodes_of first) (path_nodes up) old new below)

-- the node at the top of a tree is one of its nodes
pub top-met : (t : Tree) → 1 ≤ times (top_of t) (nodes_of t)
top-met (Leaf node order) = omega arith
top-met (Inner node prefix key first second) = omega arith
top-met (Other node) = omega arith

-- the node at the top of a part is the same whatever the way
pub top-plug : (path : Path) (t u : Tree) → top_of t ≡ top_of u → top_of (plug path t) ≡ top_of (plug path u)
top-plug Root t u top = top
top-plug (InFirst node prefix key second up) t u top = top-plug up (Inner node prefix key t second) (Inner node prefix key u second) refl
top-plug (InSecond node prefix key first up) t u top = top-plug up (Inner node prefix key first t) (Inner node prefix key first u) refl

-- ---- the tree that is read is the one that is held

module _ (steps : ℕ) (bytes : List ℕ) (node : ℕ) where
  -- a leaf, an inner node, any other node
  pub tree_from-leaf : tag_of bytes node ≡ 2 → tree_from (suc steps) bytes node ≡ Leaf node (order_of bytes node)
  unfolding tree_from
  tree_from-leaf tag = rw (eq-eqb (tag_of bytes node) 2 tag) refl

  pub tree_from-inner : tag_of bytes node ≡ 1 → tree_from (suc steps) bytes node
      ≡ Inner node (prefix_of bytes node) (key_of bytes node) (tree_from steps bytes (first_child_of bytes node)) (tree_from steps bytes (second_child_of bytes node))
  unfolding tree_from
  tree_from-inner tag = rw (ne_eqb (tag_of bytes node) 2 (omega arith), eq-eqb (tag_of bytes node) 1 tag) refl

  pub tree_from-other : tag_of bytes node ≢ 2 → tag_of bytes node ≢ 1 → tree_from (suc steps) bytes node ≡ Other node
  unfolding tree_from
  tree_from-other no_leaf no_inner = rw (ne_eqb (tag_of bytes node) 2 no_leaf, ne_eqb (tag_of bytes node) 1 no_inner) refl

pub tree_from-held : (steps : ℕ) (bytes : List ℕ) (t : Tree) (least : ℕ) → Holds bytes t → HasPrefixes least t → least ≤ 128 → 129 ≤ least + steps
    → tree_from steps bytes (top_of t) ≡ t
tree_from-held zero bytes t least h prefixes low enough = absurd (omega arith)
tree_from-held (suc steps) bytes (Leaf node order) least h prefixes low enough =
    tree_from-leaf steps bytes node h.tag ∙ ap (λ (o : Order). Leaf node o) h.said
tree_from-held (suc steps) bytes (Inner node prefix key first second) least h prefixes low enough =
    let one = tree_from-held steps bytes first (suc prefix) h.1 prefixes.2 (omega arith) (omega arith) in
    let two = tree_from-held steps bytes second (suc prefix) h.2 prefixes.3 (omega arith) (omega arith) in
    tree_from-inner steps bytes node h.0.tag
    ∙ ap (λ (n : ℕ). Inner node n (key_of bytes node) (tree_from steps bytes (first_child_of bytes node)) (tree_from steps bytes (second_child_of bytes node))) h.0.prefixes
    ∙ ap (λ (n : ℕ). Inner node prefix n (tree_from steps bytes (first_child_of bytes node)) (tree_from steps bytes (second_child_of bytes node))) h.0.keys
    ∙ ap (λ (n : ℕ). Inner node prefix key (tree_from steps bytes n) (tree_from steps bytes (second_child_of bytes node))) h.0.firsts
    ∙ ap (λ (n : ℕ). Inner node prefix key (tree_from steps bytes (top_of first)) (tree_from steps bytes n)) h.0.seconds
    ∙ ap (λ (a : Tree). Inner node prefix key a (tree_from steps bytes (top_of second))) one
    ∙ ap (λ (b : Tree). Inner node prefix key first b) two
tree_from-held (suc steps) bytes (Other node) least h prefixes low enough = absurd h

pub top-tree_from : (steps : ℕ) (bytes : List ℕ) (node : ℕ) → top_of (tree_from steps bytes node) ≡ node
unfolding tree_from
top-tree_from zero bytes node = refl
top-tree_from (suc steps) bytes node =
    elim (cases_eq (tag_of bytes node) 2) [
      | inl leaf ↦ ap top_of (tree_from-leaf steps bytes node leaf)
      | inr no_leaf ↦ elim (cases_eq (tag_of bytes node) 1) [
        | inl branch ↦ ap top_of (tree_from-inner steps bytes node branch)
        | inr no_inner ↦ ap top_of (tree_from-other steps bytes node no_leaf no_inner)
      ]
    ]

-- a tree of known nodes is held
pub Holds-from : (steps : ℕ) (bytes : List ℕ) (node : ℕ) → IsKnown (tree_from steps bytes node) → Holds bytes (tree_from steps bytes node)
unfolding tree_from
Holds-from zero bytes node known = known
Holds-from (suc steps) bytes node known =
    elim (cases_eq (tag_of bytes node) 2) [
      | inl leaf ↦
          let here : Holds bytes (Leaf node (order_of bytes node)) = record { tag = leaf; said = refl } in
          subst (λ (t : Tree). Holds bytes t) (sym (tree_from-leaf steps bytes node leaf)) here
      | inr no_leaf ↦ elim (cases_eq (tag_of bytes node) 1) [
        | inl branch ↦
            let is = tree_from-inner steps bytes node branch in
            let below : IsKnown (Inner node (prefix_of bytes node) (key_of bytes node) (tree_from steps bytes (first_child_of bytes node)) (tree_from steps bytes (second_child_of bytes node)))
            = subst (λ (t : Tree). IsKnown t) is known in
            let one = Holds-from steps bytes (first_child_of bytes node) below.0 in
            let two = Holds-from steps bytes (second_child_of bytes node) below.1 in
            subst (λ (t : Tree). Holds bytes t) (sym is) (
              record {
                tag = branch;
                prefixes = refl;
                keys = refl;
                firsts = sym (top-tree_from steps bytes (first_child_of bytes node));
                seconds = sym (top-tree_from steps bytes (second_child_of bytes node));
              },
              one,
              two,
            )
        | inr no_inner ↦ absurd (subst (λ (t : Tree). IsKnown t) (tree_from-other steps bytes node no_leaf no_inner) known)
      ]
    ]

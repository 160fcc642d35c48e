-- Why a slab is a side of the book: its leaves are in book order, each can rest, and there is room for them.
use Rattle.std.proofs.Common.{◌≡◌, ℕ, suc, ◌+◌, ◌*◌, ◌-◌, ◌/◌, ◌^◌, ◌<◌, ◌≤◌, inl, inr, IsTrue, List, [], ◌∷◌, ◌++◌, length, Option, Some, None, IfSome, refl, arith}
use Rattle.std.specs.List.{All}
use Rattle.std.proofs.Math.Nat.{div-mul-le_self}
use Rattle.std.proofs.lemmas.Bool.{cases_lt, lt-ltb}
use Rattle.std.proofs.lemmas.List.{length-append}
use Rattle.std.proofs.lemmas.List.Elements.{All-append, All-cons, All-nil}
use Rattle.std.proofs.lemmas.Nat.{le-div, pow_pos}
use Rattle.dex_types.specs.declared.orders.Order.{Order}
use Rattle.dex_types.specs.declared.terms.Side.{Side}
use Rattle.dex_types.specs.declared.terms.Side.TheVariants.{Bid, Ask}
use Rattle.dex_types.specs.BookSide.{CanRest, IsBookSide}
use Rattle.dex_types.specs.Posting.{InBookOrder, PrecedesAll}
use Rattle.dex_types.specs.Side.{precedes}
use Rattle.dex_slab.specs.Slab.{IsShared, IsSlab, IsTree, free_of, nodes_in, orders_in, resting, room_in, tree_of}
use Rattle.dex_slab.specs.Tree.{Tree, Leaf, Inner, Other, AllKeys, Begins, CanAllRest, IsKnown, KeysAgree, first_bits, nodes_of, orders_of}

-- ---- in book order

-- of two keys with the same prefix the one that goes on with 0 is less
begins-lt : (p k x y : ℕ) → Begins p k 0 x → Begins p k 1 y → x < y
unfolding first_bits
begins-lt p k x y first second =
    elim (cases_lt x y) [
      | inl less ↦ less
      | inr more ↦
          let part : y / 2 ^ (128 - suc p) * 2 ^ (128 - suc p) ≤ x = omega (arith, div-mul-le_self y (2 ^ (128 - suc p))) in
          absurd (omega (arith, le-div (y / 2 ^ (128 - suc p)) x (2 ^ (128 - suc p)) (pow_pos (128 - suc p)) part))
    ]

keys-map : (P Q : ℕ → Type 0) → ((id : ℕ) → P id → Q id) → (t : Tree) → AllKeys P t → AllKeys Q t
keys-map P Q f (Leaf node order) h = f order.id h
keys-map P Q f (Inner node prefix key first second) h = (f key h.0, keys-map P Q f first h.1, keys-map P Q f second h.2)
keys-map P Q f (Other node) h = tt

precedes-append : (side : Side) (id : ℕ) (xs ys : List Order) → PrecedesAll side id xs → PrecedesAll side id ys → PrecedesAll side id (xs ++ ys)
precedes-append side id [] ys one two = two
precedes-append side id (x ∷ xs) ys one two = (one.0, precedes-append side id xs ys one.1 two)

-- an id that stands before all keys stands before all orders
precedes-tree : (side : Side) (id : ℕ) (t : Tree) → AllKeys (λ other. IsTrue (precedes side id other)) t → PrecedesAll side id (orders_of side t)
precedes-tree side id (Leaf node order) h = (h, tt)
precedes-tree Bid id (Inner node prefix key first second) h =
    precedes-append Bid id (orders_of Bid second) (orders_of Bid first) (precedes-tree Bid id second h.2) (precedes-tree Bid id first h.1)
precedes-tree Ask id (Inner node prefix key first second) h =
    precedes-append Ask id (orders_of Ask first) (orders_of Ask second) (precedes-tree Ask id first h.1) (precedes-tree Ask id second h.2)
precedes-tree side id (Other node) h = tt

-- each of the first orders stands before all of the others
abbrev AllBefore : Side → List Order → List Order → Type 0
AllBefore side [] ys = Unit {0}
AllBefore side (x ∷ xs) ys = PrecedesAll side x.id ys × AllBefore side xs ys

before-append : (side : Side) (xs ys zs : List Order) → AllBefore side xs zs → AllBefore side ys zs → AllBefore side (xs ++ ys) zs
before-append side [] ys zs one two = two
before-append side (x ∷ xs) ys zs one two = (one.0, before-append side xs ys zs one.1 two)

before-tree : (side : Side) (t : Tree) (ys : List Order) → AllKeys (λ id. PrecedesAll side id ys) t → AllBefore side (orders_of side t) ys
before-tree side (Leaf node order) ys h = (h, tt)
before-tree Bid (Inner node prefix key first second) ys h =
    before-append Bid (orders_of Bid second) (orders_of Bid first) ys (before-tree Bid second ys h.2) (before-tree Bid first ys h.1)
before-tree Ask (Inner node prefix key first second) ys h =
    before-append Ask (orders_of Ask first) (orders_of Ask second) ys (before-tree Ask first ys h.1) (before-tree Ask second ys h.2)
before-tree side (Other node) ys h = tt

order-append : (side : Side) (xs ys : List Order) → InBookOrder side xs → InBookOrder side ys → AllBefore side xs ys → InBookOrder side (xs ++ ys)
order-append side [] ys one two before = two
order-append side (x ∷ xs) ys one two before = (precedes-append side x.id xs ys one.0 before.0, order-append side xs ys one.1 two before.1)

-- the leaves of a tree whose keys agree are in book order
in_order : (side : Side) (t : Tree) → KeysAgree t → InBookOrder side (orders_of side t)
in_order side (Leaf node order) h = (tt, tt)
in_order Bid (Inner node prefix key first second) h =
    order-append Bid (orders_of Bid second) (orders_of Bid first) (in_order Bid second h.3) (in_order Bid first h.2)
    (before-tree Bid second (orders_of Bid first) (keys-map (Begins prefix key 1) (λ id. PrecedesAll Bid id (orders_of Bid first))
    (λ id high. precedes-tree Bid id first (keys-map (Begins prefix key 0) (λ other. IsTrue (precedes Bid id other))
    (λ other low. lt-ltb other id (begins-lt prefix key other id low high)) first h.0)) second h.1))
in_order Ask (Inner node prefix key first second) h =
    order-append Ask (orders_of Ask first) (orders_of Ask second) (in_order Ask first h.2) (in_order Ask second h.3)
    (before-tree Ask first (orders_of Ask second) (keys-map (Begins prefix key 0) (λ id. PrecedesAll Ask id (orders_of Ask second))
    (λ id low. precedes-tree Ask id second (keys-map (Begins prefix key 1) (λ other. IsTrue (precedes Ask id other))
    (λ other high. lt-ltb id other (begins-lt prefix key id other low high)) second h.1)) first h.0))
in_order side (Other node) h = tt

-- ---- each order, and how many there are

all_rest : (side : Side) (t : Tree) → CanAllRest t → All CanRest (orders_of side t)
all_rest side (Leaf node order) h = All-cons CanRest order [] h (All-nil CanRest)
all_rest Bid (Inner node prefix key first second) h = All-append CanRest (orders_of Bid second) (orders_of Bid first) (all_rest Bid second h.1) (all_rest Bid first h.0)
all_rest Ask (Inner node prefix key first second) h = All-append CanRest (orders_of Ask first) (orders_of Ask second) (all_rest Ask first h.0) (all_rest Ask second h.1)
all_rest side (Other node) h = All-nil CanRest

-- n orders take 2 * n - 1 nodes
length-orders : (side : Side) (t : Tree) → IsKnown t → length (nodes_of t) + 1 ≡ 2 * length (orders_of side t)
length-orders side (Leaf node order) known = refl
length-orders Bid (Inner node prefix key first second) known =
    omega (arith, length-append (nodes_of first) (nodes_of second), length-append (orders_of Bid second) (orders_of Bid first), length-orders Bid first known.0, length-orders Bid second known.1)
length-orders Ask (Inner node prefix key first second) known =
    omega (arith, length-append (nodes_of first) (nodes_of second), length-append (orders_of Ask first) (orders_of Ask second), length-orders Ask first known.0, length-orders Ask second known.1)
length-orders side (Other node) known = absurd known

side_by : (side : Side) (bytes : List ℕ) (tree : Option Tree) → IsShared bytes (nodes_in tree) (free_of bytes) → IfSome tree IsTree
    → IsBookSide side (room_in bytes) (orders_in side tree)
side_by side bytes None shared good = record { in_order = tt; can_rest = All-nil CanRest; within = omega arith }
side_by side bytes (Some t) shared good = record {
  in_order = in_order side t good.keys;
  can_rest = all_rest side t good.can_rest;
  within = omega (arith, length-orders side t good.known, length-append (nodes_of t) (free_of bytes), shared.whole, shared.bump);
}

-- the orders of a slab are in book order, within its room, and each can rest
pub slab_side : (side : Side) (bytes : List ℕ) → IsSlab bytes → IsBookSide side (room_in bytes) (resting side bytes)
slab_side side bytes slab = side_by side bytes (tree_of bytes) slab.shared slab.tree

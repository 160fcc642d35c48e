-- The orders of a tree: in book order, and where the orders of a part of it stand among them.
use Rattle.std.proofs.Common.{◌≡◌, ℕ, ◌<◌, inl, inr, true, false, List, [], ◌∷◌, ◌++◌, length, append_assoc, refl, sym, ap, ◌∙◌, subst, arith}
use Rattle.std.proofs.lemmas.Bool.{le-ltb, lt-ltb}
use Rattle.std.proofs.lemmas.List.{length-append}
use Rattle.dex_types.specs.declared.orders.Order.{Order}
use Rattle.dex_types.specs.declared.terms.Side.{Side}
use Rattle.dex_types.specs.declared.terms.Side.TheVariants.{Bid, Ask}
use Rattle.dex_types.specs.Side.{precedes}
use Rattle.dex_slab.specs.Path.{Path, Root, InFirst, InSecond, Leads, plug}
use Rattle.dex_slab.specs.Tree.{Tree, Leaf, Inner, Other, AllKeys, Begins, KeysAgree, leaves_of, orders_of}
use Rattle.dex_slab.specs.Walks.{RestsIn}
use Rattle.dex_slab.proofs.IdLists.{AllIds, AllIds-append, AllIds-map, HasId, HasId-append}
use Rattle.dex_slab.proofs.KeyBits.{Begins-lt}
use Rattle.dex_slab.proofs.Plugs.{keys-part}

-- a fact of all keys is one of all ids
pub AllIds-of : (Holds : ℕ → Type 0) (side : Side) (t : Tree) → AllKeys Holds t → AllIds Holds (orders_of side t)
AllIds-of Holds side (Leaf node order) h = (h, tt)
AllIds-of Holds Bid (Inner node prefix key first second) h =
    AllIds-append Holds (orders_of Bid second) (orders_of Bid first) (AllIds-of Holds Bid second h.2) (AllIds-of Holds Bid first h.1)
AllIds-of Holds Ask (Inner node prefix key first second) h =
    AllIds-append Holds (orders_of Ask first) (orders_of Ask second) (AllIds-of Holds Ask first h.1) (AllIds-of Holds Ask second h.2)
AllIds-of Holds side (Other node) h = tt

pub length-orders_of : (side : Side) (t : Tree) → length (orders_of side t) ≡ leaves_of t
length-orders_of side (Leaf node order) = refl
length-orders_of Bid (Inner node prefix key first second) =
    omega (arith, length-append (orders_of Bid second) (orders_of Bid first), length-orders_of Bid first, length-orders_of Bid second)
length-orders_of Ask (Inner node prefix key first second) =
    omega (arith, length-append (orders_of Ask first) (orders_of Ask second), length-orders_of Ask first, length-orders_of Ask second)
length-orders_of side (Other node) = refl

-- ---- the orders beside a part

-- those before the part and those after it
abbrev pub before : Side → Path → List Order
before side Root = []
before Bid (InFirst node prefix key second up) = before Bid up ++ orders_of Bid second
before Bid (InSecond node prefix key first up) = before Bid up
before Ask (InFirst node prefix key second up) = before Ask up
before Ask (InSecond node prefix key first up) = before Ask up ++ orders_of Ask first

abbrev pub behind : Side → Path → List Order
behind side Root = []
behind Bid (InFirst node prefix key second up) = behind Bid up
behind Bid (InSecond node prefix key first up) = orders_of Bid first ++ behind Bid up
behind Ask (InFirst node prefix key second up) = orders_of Ask second ++ behind Ask up
behind Ask (InSecond node prefix key first up) = behind Ask up

-- five lists in one row
regroup_front : (a b c d : List Order) → a ++ ((b ++ c) ++ d) ≡ (a ++ b) ++ (c ++ d)
regroup_front a b c d = ap (λ (l : List Order). a ++ l) (append_assoc b c d) ∙ sym (append_assoc a b (c ++ d))

regroup_back : (a b c d : List Order) → a ++ ((b ++ c) ++ d) ≡ a ++ (b ++ (c ++ d))
regroup_back a b c d = ap (λ (l : List Order). a ++ l) (append_assoc b c d)

nil_behind : (xs : List Order) → xs ++ [] ≡ xs
nil_behind [] = refl
nil_behind (x ∷ xs) = ap (λ (l : List Order). x ∷ l) (nil_behind xs)

pub orders-plug : (side : Side) (path : Path) (t : Tree) → orders_of side (plug path t) ≡ before side path ++ (orders_of side t ++ behind side path)
orders-plug side Root t = sym (nil_behind (orders_of side t))
orders-plug Bid (InFirst node prefix key second up) t =
    orders-plug Bid up (Inner node prefix key t second) ∙ regroup_front (before Bid up) (orders_of Bid second) (orders_of Bid t) (behind Bid up)
orders-plug Bid (InSecond node prefix key first up) t =
    orders-plug Bid up (Inner node prefix key first t) ∙ regroup_back (before Bid up) (orders_of Bid t) (orders_of Bid first) (behind Bid up)
orders-plug Ask (InFirst node prefix key second up) t =
    orders-plug Ask up (Inner node prefix key t second) ∙ regroup_back (before Ask up) (orders_of Ask t) (orders_of Ask second) (behind Ask up)
orders-plug Ask (InSecond node prefix key first up) t =
    orders-plug Ask up (Inner node prefix key first t) ∙ regroup_front (before Ask up) (orders_of Ask first) (orders_of Ask t) (behind Ask up)

-- the keys beside a part, seen from an id to which the way leads
greater : (id prefix key : ℕ) (side : Side) (second : Tree) → Begins prefix key 0 id → AllKeys (Begins prefix key 1) second → AllIds (λ other. id < other) (orders_of side second)
greater id prefix key side second begins all =
    AllIds-map (Begins prefix key 1) (λ other. id < other) (λ other after. Begins-lt prefix key id other begins after) (orders_of side second) (AllIds-of (Begins prefix key 1) side second all)

less : (id prefix key : ℕ) (side : Side) (first : Tree) → Begins prefix key 1 id → AllKeys (Begins prefix key 0) first → AllIds (λ other. other < id) (orders_of side first)
less id prefix key side first begins all =
    AllIds-map (Begins prefix key 0) (λ other. other < id) (λ other first_one. Begins-lt prefix key other id first_one begins) (orders_of side first) (AllIds-of (Begins prefix key 0) side first all)

-- the orders before the part stand before such an id
pub before-precedes : (side : Side) (id : ℕ) (path : Path) (t : Tree) → KeysAgree (plug path t) → Leads id path
    → AllIds (λ other. precedes side other id ≡ true) (before side path)
before-precedes side id Root t h leads = tt
before-precedes Bid id (InFirst node prefix key second up) t h leads =
    AllIds-append (λ other. precedes Bid other id ≡ true) (before Bid up) (orders_of Bid second)
    (before-precedes Bid id up (Inner node prefix key t second) h leads.1)
    (AllIds-map (λ other. id < other) (λ other. precedes Bid other id ≡ true) (λ other lt. lt-ltb id other lt) (orders_of Bid second)
    (greater id prefix key Bid second leads.0 (keys-part up (Inner node prefix key t second) h).1))
before-precedes Bid id (InSecond node prefix key first up) t h leads = before-precedes Bid id up (Inner node prefix key first t) h leads.1
before-precedes Ask id (InFirst node prefix key second up) t h leads = before-precedes Ask id up (Inner node prefix key t second) h leads.1
before-precedes Ask id (InSecond node prefix key first up) t h leads =
    AllIds-append (λ other. precedes Ask other id ≡ true) (before Ask up) (orders_of Ask first)
    (before-precedes Ask id up (Inner node prefix key first t) h leads.1)
    (AllIds-map (λ other. other < id) (λ other. precedes Ask other id ≡ true) (λ other lt. lt-ltb other id lt) (orders_of Ask first)
    (less id prefix key Ask first leads.0 (keys-part up (Inner node prefix key first t) h).0))

-- and those after it do not
pub behind-follows : (side : Side) (id : ℕ) (path : Path) (t : Tree) → KeysAgree (plug path t) → Leads id path
    → AllIds (λ other. precedes side other id ≡ false) (behind side path)
behind-follows side id Root t h leads = tt
behind-follows Bid id (InFirst node prefix key second up) t h leads = behind-follows Bid id up (Inner node prefix key t second) h leads.1
behind-follows Bid id (InSecond node prefix key first up) t h leads =
    AllIds-append (λ other. precedes Bid other id ≡ false) (orders_of Bid first) (behind Bid up)
    (AllIds-map (λ other. other < id) (λ other. precedes Bid other id ≡ false) (λ other lt. le-ltb id other (omega arith)) (orders_of Bid first)
    (less id prefix key Bid first leads.0 (keys-part up (Inner node prefix key first t) h).0))
    (behind-follows Bid id up (Inner node prefix key first t) h leads.1)
behind-follows Ask id (InFirst node prefix key second up) t h leads =
    AllIds-append (λ other. precedes Ask other id ≡ false) (orders_of Ask second) (behind Ask up)
    (AllIds-map (λ other. id < other) (λ other. precedes Ask other id ≡ false) (λ other lt. le-ltb other id (omega arith)) (orders_of Ask second)
    (greater id prefix key Ask second leads.0 (keys-part up (Inner node prefix key t second) h).1))
    (behind-follows Ask id up (Inner node prefix key t second) h leads.1)
behind-follows Ask id (InSecond node prefix key first up) t h leads = behind-follows Ask id up (Inner node prefix key first t) h leads.1

-- ---- ids that rest

pub RestsIn-from : (side : Side) (id : ℕ) (t : Tree) → HasId id (orders_of side t) → RestsIn id t
RestsIn-from side id (Leaf node order) (inl same) = same
RestsIn-from side id (Leaf node order) (inr none) = absurd none
RestsIn-from Bid id (Inner node prefix key first second) h =
    elim (HasId-append id (orders_of Bid second) (orders_of Bid first) h) [
      | inl there ↦ inr (RestsIn-from Bid id second there)
      | inr here ↦ inl (RestsIn-from Bid id first here)
    ]
RestsIn-from Ask id (Inner node prefix key first second) h =
    elim (HasId-append id (orders_of Ask first) (orders_of Ask second) h) [
      | inl here ↦ inl (RestsIn-from Ask id first here)
      | inr there ↦ inr (RestsIn-from Ask id second there)
    ]
RestsIn-from side id (Other node) h = absurd h

-- what holds of all keys holds of it
pub RestsIn-key : (Holds : ℕ → Type 0) (id : ℕ) (t : Tree) → AllKeys Holds t → RestsIn id t → Holds id
RestsIn-key Holds id (Leaf node order) h same = subst Holds same h
RestsIn-key Holds id (Inner node prefix key first second) h (inl here) = RestsIn-key Holds id first h.1 here
RestsIn-key Holds id (Inner node prefix key first second) h (inr there) = RestsIn-key Holds id second h.2 there
RestsIn-key Holds id (Other node) h none = absurd none

-- What holds of a tree with a part at the end of a way, of the part and of the way.
use Rattle.std.proofs.Common.{◌≡◌, ℕ, suc, ◌+◌, List, [], ◌∷◌, ◌++◌, length, arith}
use Rattle.std.proofs.lemmas.List.{length-append}
use Rattle.dex_slab.specs.Path.{Path, Root, InFirst, InSecond, Leads, plug}
use Rattle.dex_slab.specs.Slab.{times}
use Rattle.dex_slab.specs.Tree.{Tree, Leaf, Inner, Other, AllKeys, Begins, CanAllRest, HasPrefixes, IsKnown, KeysAgree, leaves_of, nodes_of}
use Rattle.dex_slab.proofs.Times.{times-append}

-- ---- counts

-- the nodes of a way, and of what stands beside it
abbrev pub path_nodes : Path → List ℕ
path_nodes Root = []
path_nodes (InFirst node prefix key second up) = node ∷ nodes_of second ++ path_nodes up
path_nodes (InSecond node prefix key first up) = node ∷ nodes_of first ++ path_nodes up

abbrev pub path_leaves : Path → ℕ
path_leaves Root = 0
path_leaves (InFirst node prefix key second up) = leaves_of second + path_leaves up
path_leaves (InSecond node prefix key first up) = leaves_of first + path_leaves up

pub times-plug : (n : ℕ) (path : Path) (t : Tree) → times n (nodes_of (plug path t)) ≡ times n (nodes_of t) + times n (path_nodes path)
times-plug n Root t = omega arith
times-plug n (InFirst node prefix key second up) t =
    omega (arith, times-plug n up (Inner node prefix key t second), times-append n (nodes_of t) (nodes_of second), times-append n (nodes_of second) (path_nodes up))
times-plug n (InSecond node prefix key first up) t =
    omega (arith, times-plug n up (Inner node prefix key first t), times-append n (nodes_of first) (nodes_of t), times-append n (nodes_of first) (path_nodes up))

pub nodes-plug : (path : Path) (t : Tree) → length (nodes_of (plug path t)) ≡ length (nodes_of t) + length (path_nodes path)
nodes-plug Root t = omega arith
nodes-plug (InFirst node prefix key second up) t =
    omega (arith, nodes-plug up (Inner node prefix key t second), length-append (nodes_of t) (nodes_of second), length-append (nodes_of second) (path_nodes up))
nodes-plug (InSecond node prefix key first up) t =
    omega (arith, nodes-plug up (Inner node prefix key first t), length-append (nodes_of first) (nodes_of t), length-append (nodes_of first) (path_nodes up))

pub leaves-plug : (path : Path) (t : Tree) → leaves_of (plug path t) ≡ leaves_of t + path_leaves path
leaves-plug Root t = omega arith
leaves-plug (InFirst node prefix key second up) t = omega (arith, leaves-plug up (Inner node prefix key t second))
leaves-plug (InSecond node prefix key first up) t = omega (arith, leaves-plug up (Inner node prefix key first t))

-- ---- known nodes

pub known-part : (path : Path) (t : Tree) → IsKnown (plug path t) → IsKnown t
known-part Root t h = h
known-part (InFirst node prefix key second up) t h = (known-part up (Inner node prefix key t second) h).0
known-part (InSecond node prefix key first up) t h = (known-part up (Inner node prefix key first t) h).1

pub known-plug : (path : Path) (t u : Tree) → IsKnown (plug path t) → IsKnown u → IsKnown (plug path u)
known-plug Root t u h k = k
known-plug (InFirst node prefix key second up) t u h k =
    known-plug up (Inner node prefix key t second) (Inner node prefix key u second) h (k, (known-part up (Inner node prefix key t second) h).1)
known-plug (InSecond node prefix key first up) t u h k =
    known-plug up (Inner node prefix key first t) (Inner node prefix key first u) h ((known-part up (Inner node prefix key first t) h).0, k)

-- ---- orders that can rest

pub rest-part : (path : Path) (t : Tree) → CanAllRest (plug path t) → CanAllRest t
rest-part Root t h = h
rest-part (InFirst node prefix key second up) t h = (rest-part up (Inner node prefix key t second) h).0
rest-part (InSecond node prefix key first up) t h = (rest-part up (Inner node prefix key first t) h).1

pub rest-plug : (path : Path) (t u : Tree) → CanAllRest (plug path t) → CanAllRest u → CanAllRest (plug path u)
rest-plug Root t u h k = k
rest-plug (InFirst node prefix key second up) t u h k =
    rest-plug up (Inner node prefix key t second) (Inner node prefix key u second) h (k, (rest-part up (Inner node prefix key t second) h).1)
rest-plug (InSecond node prefix key first up) t u h k =
    rest-plug up (Inner node prefix key first t) (Inner node prefix key first u) h ((rest-part up (Inner node prefix key first t) h).0, k)

-- ---- prefixes

-- the least prefix at the end of a way
abbrev pub least_at : Path → ℕ
least_at Root = 0
least_at (InFirst node prefix key second up) = suc prefix
least_at (InSecond node prefix key first up) = suc prefix

pub prefixes-part : (path : Path) (t : Tree) → HasPrefixes 0 (plug path t) → HasPrefixes (least_at path) t
prefixes-part Root t h = h
prefixes-part (InFirst node prefix key second up) t h = (prefixes-part up (Inner node prefix key t second) h).2
prefixes-part (InSecond node prefix key first up) t h = (prefixes-part up (Inner node prefix key first t) h).3

pub prefixes-plug : (path : Path) (t u : Tree) → HasPrefixes 0 (plug path t) → HasPrefixes (least_at path) u → HasPrefixes 0 (plug path u)
prefixes-plug Root t u h k = k
prefixes-plug (InFirst node prefix key second up) t u h k =
    let before = prefixes-part up (Inner node prefix key t second) h in
    prefixes-plug up (Inner node prefix key t second) (Inner node prefix key u second) h (before.0, before.1, k, before.3)
prefixes-plug (InSecond node prefix key first up) t u h k =
    let before = prefixes-part up (Inner node prefix key first t) h in
    prefixes-plug up (Inner node prefix key first t) (Inner node prefix key first u) h (before.0, before.1, before.2, k)

-- ---- keys

pub keys-part : (path : Path) (t : Tree) → KeysAgree (plug path t) → KeysAgree t
keys-part Root t h = h
keys-part (InFirst node prefix key second up) t h = (keys-part up (Inner node prefix key t second) h).2
keys-part (InSecond node prefix key first up) t h = (keys-part up (Inner node prefix key first t) h).3

-- a part yields to another one whose keys are among its keys and an id to which the way leads
pub keys-plug : (id : ℕ) (path : Path) (t u : Tree) → KeysAgree (plug path t) → Leads id path → KeysAgree u
    → ((Holds : ℕ → Type 0) → Holds id → AllKeys Holds t → AllKeys Holds u) → KeysAgree (plug path u)
keys-plug id Root t u h leads k more = k
keys-plug id (InFirst node prefix key second up) t u h leads k more =
    let before = keys-part up (Inner node prefix key t second) h in
    keys-plug id up (Inner node prefix key t second) (Inner node prefix key u second) h leads.1
    (more (Begins prefix key 0) leads.0 before.0, before.1, k, before.3)
    (λ Holds here all. (all.0, more Holds here all.1, all.2))
keys-plug id (InSecond node prefix key first up) t u h leads k more =
    let before = keys-part up (Inner node prefix key first t) h in
    keys-plug id up (Inner node prefix key first t) (Inner node prefix key first u) h leads.1
    (before.0, more (Begins prefix key 1) leads.0 before.1, before.2, k)
    (λ Holds here all. (all.0, all.1, more Holds here all.2))

-- the keys of a part, as those of every part of the tree, begin as the way says
pub AllKeys-map : (P Q : ℕ → Type 0) → ((key : ℕ) → P key → Q key) → (t : Tree) → AllKeys P t → AllKeys Q t
AllKeys-map P Q f (Leaf node order) h = f order.id h
AllKeys-map P Q f (Inner node prefix key first second) h = (f key h.0, AllKeys-map P Q f first h.1, AllKeys-map P Q f second h.2)
AllKeys-map P Q f (Other node) h = tt

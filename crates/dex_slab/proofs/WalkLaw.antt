-- One step of a walk down the tree of a slab.
use Rattle.std.proofs.Common.{◌≡◌, ℕ, ◌<◌, ◌≤◌, ◌^◌, inl, inr, List, length, drop, Option, Some, None, IfSome, refl, sym, ap, subst, ◌∙◌, arith}
use Rattle.std.proofs.Math.Nat.{pow-le-pow_right}
use Rattle.std.proofs.lemmas.Bool.{cases_eq, cases_lt, eq-eqb, le-leb, lt-leb, ne_eqb}
use Rattle.std.proofs.lemmas.List.{length-append, length-take}
use Rattle.dex_fields.specs.declared.inner_node.TheConstants as inner
use Rattle.dex_fields.specs.Bytes.{AreBytes, bytes_in, number_in, number_of_bytes}
use Rattle.dex_fields.proofs.Numbers.{number_of_bytes-lt}
use Rattle.dex_fields.proofs.Reading.{AreBytes-bytes_in}
use Rattle.dex_types.specs.declared.orders.Order.{Order}
use Rattle.dex_slab.specs.declared.nodes.Branch.{Branch}
use Rattle.dex_slab.specs.Held.{Holds}
use Rattle.dex_slab.specs.Nodes.{branch_of, count_of, key_of, node_bytes, node_field, nodes_within, order_in, root_of, tag_of}
use Rattle.dex_slab.specs.Path.{Path, InFirst, InSecond, Leads, bit_behind, plug, shared_bits, top_key, top_of}
use Rattle.dex_slab.specs.Slab.{IsShared, IsSlab, IsTree, free_of, nodes_in, times, tree_of}
use Rattle.dex_slab.specs.Tree.{Tree, Leaf, Inner, Other, Begins, HasPrefixes, KeysAgree, first_bits, nodes_of}
use Rattle.dex_slab.specs.Walks.{IsOnWay, Stops, child_towards, next_towards, tree_at}
use Rattle.dex_slab.proofs.Holding.{Holds-part, top-met, tree_from-held}
use Rattle.dex_slab.proofs.KeyBits.{Begins-from, bit_behind-lt, shared_bits-same}
use Rattle.dex_slab.proofs.Plugs.{keys-part, least_at, prefixes-part, times-plug}
use Rattle.dex_slab.proofs.PoolLaw.{used-below}
use Rattle.dex_slab.proofs.Somes.{none_some, same_some}
use Rattle.dex_slab.proofs.Standing.{IsHeld, stands_of, tree_of-cases}

-- ---- the tree of a slab that is not empty

pub record Rooted (bytes : List ℕ) : Type 0 where
  pub is : tree_of bytes ≡ Some (tree_at bytes (root_of bytes))
  pub good : IsTree (tree_at bytes (root_of bytes))
  pub held : IsHeld bytes (tree_at bytes (root_of bytes))
  pub shared : IsShared bytes (nodes_of (tree_at bytes (root_of bytes))) (free_of bytes)

pub rooted : (bytes : List ℕ) → IsSlab bytes → 1 ≤ count_of bytes → Rooted bytes
rooted bytes h some =
    elim (tree_of-cases bytes) [
      | inl none ↦ absurd (omega (arith, none.0))
      | inr more ↦
          let stands = stands_of bytes h in
          record {
            is = more.1;
            good = subst (λ (o : Option Tree). IfSome o IsTree) more.1 stands.good;
            held = subst (λ (o : Option Tree). IfSome o (IsHeld bytes)) more.1 stands.held;
            shared = subst (λ (o : Option Tree). IsShared bytes (nodes_in o) (free_of bytes)) more.1 stands.shared;
          }
    ]

-- a node on a way down the tree lies in the account
pub way-below : (bytes : List ℕ) (id node : ℕ) → Rooted bytes → IsOnWay (tree_at bytes (root_of bytes)) id node → node < nodes_within (length bytes)
way-below bytes id node r way =
    let met : 1 ≤ times (top_of way.part) (nodes_of (plug way.path way.part)) =
    omega (arith, times-plug (top_of way.part) way.path way.part, top-met way.part) in
    used-below bytes (nodes_of (tree_at bytes (root_of bytes))) node r.shared
    (subst (λ (n : ℕ). 1 ≤ times n (nodes_of (tree_at bytes (root_of bytes)))) way.top
    (subst (λ (t : Tree). 1 ≤ times (top_of way.part) (nodes_of t)) way.whole met))

-- ---- what an inner node and a leaf read as

pub branch-leaf : (bytes : List ℕ) (node : ℕ) (order : Order) → Holds bytes (Leaf node order) → branch_of bytes node ≡ None
branch-leaf bytes node order h = rw (ne_eqb (tag_of bytes node) 1 (λ one. absurd (omega (arith, h.tag)))) refl

pub branch-inner : (bytes : List ℕ) (node prefix key : ℕ) (first second : Tree) → Holds bytes (Inner node prefix key first second)
    → (let made : Option Branch = Some (record { prefix = prefix; key = key; first = top_of first; second = top_of second }) in branch_of bytes node ≡ made)
branch-inner bytes node prefix key first second h =
    rw (eq-eqb (tag_of bytes node) 1 h.0.tag, h.0.prefixes, h.0.keys, h.0.firsts, h.0.seconds) refl

-- a key fits its bytes
pub key-lt : (bytes : List ℕ) (node : ℕ) → AreBytes bytes → key_of bytes node < 2 ^ 128
unfolding number_in bytes_in
key-lt bytes node h =
    let piece : List ℕ = node_bytes bytes node in
    let key : List ℕ = bytes_in piece inner.KEY in
    let low : number_of_bytes key < 256 ^ length key = number_of_bytes-lt key (AreBytes-bytes_in piece inner.KEY (AreBytes-bytes_in bytes (node_field node) h)) in
    let short : length key ≤ 16 = omega (arith, length-take 16 (drop 8 piece)) in
    let wide : 256 ^ length key ≤ 256 ^ 16 = pow-le-pow_right (omega arith) short in
    omega arith

-- ---- a step

-- from a node to one of its children, on the way of an id
pub record IsStep (bytes : List ℕ) (id node child : ℕ) : Type 0 where
  pub way : IsOnWay (tree_at bytes (root_of bytes)) id child
  pub smaller : length (nodes_of (tree_at bytes child)) < length (nodes_of (tree_at bytes node))

HasPrefixes-weaker : (least : ℕ) (t : Tree) → HasPrefixes least t → HasPrefixes 0 t
HasPrefixes-weaker least (Leaf node order) h = tt
HasPrefixes-weaker least (Inner node prefix key first second) h = (omega arith, h.1, h.2, h.3)
HasPrefixes-weaker least (Other node) h = tt

module _ (bytes : List ℕ) (r : Rooted bytes) (path : Path) where
  -- a part of the tree is the tree at its top
  pub tree_at-part : (part : Tree) → plug path part ≡ tree_at bytes (root_of bytes) → tree_at bytes (top_of part) ≡ part
  tree_at-part part whole =
      let held : Holds bytes (plug path part) = subst (λ (t : Tree). Holds bytes t) (sym whole) r.held.nodes in
      let prefixes : HasPrefixes 0 (plug path part) = subst (λ (t : Tree). HasPrefixes 0 t) (sym whole) r.good.prefixes in
      tree_from-held 129 bytes part 0 (Holds-part bytes path part held)
      (HasPrefixes-weaker (least_at path) part (prefixes-part path part prefixes)) (omega arith) (omega arith)

pub step-first : (bytes : List ℕ) → Rooted bytes → (id node prefix key : ℕ) (first second : Tree) (path : Path)
    → plug path (Inner node prefix key first second) ≡ tree_at bytes (root_of bytes) → Leads id path → Begins prefix key 0 id → IsStep bytes id node (top_of first)
step-first bytes r id node prefix key first second path whole leads begins =
    let here = tree_at-part bytes r path (Inner node prefix key first second) whole in
    let below = tree_at-part bytes r (InFirst node prefix key second path) first whole in
    record {
      way = record { path = InFirst node prefix key second path; part = first; whole = whole; top = refl; leads = (begins, leads) };
      smaller = omega (arith, ap (λ (t : Tree). length (nodes_of t)) here, ap (λ (t : Tree). length (nodes_of t)) below, length-append (nodes_of first) (nodes_of second));
    }

pub step-second : (bytes : List ℕ) → Rooted bytes → (id node prefix key : ℕ) (first second : Tree) (path : Path)
    → plug path (Inner node prefix key first second) ≡ tree_at bytes (root_of bytes) → Leads id path → Begins prefix key 1 id → IsStep bytes id node (top_of second)
step-second bytes r id node prefix key first second path whole leads begins =
    let here = tree_at-part bytes r path (Inner node prefix key first second) whole in
    let below = tree_at-part bytes r (InSecond node prefix key first path) second whole in
    record {
      way = record { path = InSecond node prefix key first path; part = second; whole = whole; top = refl; leads = (begins, leads) };
      smaller = omega (arith, ap (λ (t : Tree). length (nodes_of t)) here, ap (λ (t : Tree). length (nodes_of t)) below, length-append (nodes_of first) (nodes_of second));
    }

-- the child towards an id
pub towards-first : (id prefix key first second : ℕ) → bit_behind prefix id ≡ 0
    → child_towards id (record { prefix = prefix; key = key; first = first; second = second }) ≡ first
towards-first id prefix key first second bit = rw (ne_eqb (bit_behind prefix id) 1 (omega arith)) refl

pub towards-second : (id prefix key first second : ℕ) → bit_behind prefix id ≡ 1
    → child_towards id (record { prefix = prefix; key = key; first = first; second = second }) ≡ second
towards-second id prefix key first second bit = rw (eq-eqb (bit_behind prefix id) 1 bit) refl

-- a step of the walk of a new id
next-inner : (bytes : List ℕ) → Rooted bytes → (id node prefix key : ℕ) (first second : Tree) (path : Path)
    → plug path (Inner node prefix key first second) ≡ tree_at bytes (root_of bytes) → Leads id path → prefix < 128 → id < 2 ^ 128 → key < 2 ^ 128
    → prefix ≤ shared_bits key id
    → IsStep bytes id node (child_towards id (record { prefix = prefix; key = key; first = top_of first; second = top_of second }))
next-inner bytes r id node prefix key first second path whole leads low id_fits key_fits le =
    let same : first_bits prefix id ≡ first_bits prefix key = sym (shared_bits-same key id key_fits id_fits prefix le) in
    elim (cases_eq (bit_behind prefix id) 1) [
      | inl one ↦
          subst (λ (n : ℕ). IsStep bytes id node n) (sym (towards-second id prefix key (top_of first) (top_of second) one))
          (step-second bytes r id node prefix key first second path whole leads (Begins-from prefix key 1 id low same one))
      | inr other ↦
          let none : bit_behind prefix id ≡ 0 = omega (arith, bit_behind-lt prefix id) in
          subst (λ (n : ℕ). IsStep bytes id node n) (sym (towards-first id prefix key (top_of first) (top_of second) none))
          (step-first bytes r id node prefix key first second path whole leads (Begins-from prefix key 0 id low same none))
    ]

module _ (bytes : List ℕ) (r : Rooted bytes) (path : Path) (part : Tree) (whole : plug path part ≡ tree_at bytes (root_of bytes)) where
  pub held-part : Holds bytes part
  held-part = Holds-part bytes path part (subst (λ (t : Tree). Holds bytes t) (sym whole) r.held.nodes)

  pub prefixed-part : HasPrefixes (least_at path) part
  prefixed-part = prefixes-part path part (subst (λ (t : Tree). HasPrefixes 0 t) (sym whole) r.good.prefixes)

  pub agreed-part : KeysAgree part
  agreed-part = keys-part path part (subst (λ (t : Tree). KeysAgree t) (sym whole) r.good.keys)

-- whether the way goes on at an inner node
goes_on : (id : ℕ) (branch : Branch) → branch.prefix ≤ shared_bits branch.key id → next_towards id (Some branch) ≡ Some (child_towards id branch)
goes_on id branch le = rw (le-leb branch.prefix (shared_bits branch.key id) le) refl

goes_nowhere : (id : ℕ) (branch : Branch) → shared_bits branch.key id < branch.prefix → next_towards id (Some branch) ≡ None
goes_nowhere id branch lt = rw (lt-leb branch.prefix (shared_bits branch.key id) lt) refl

pub next-step : (bytes : List ℕ) → Rooted bytes → (id child : ℕ) (part : Tree) (path : Path) → AreBytes bytes → id < 2 ^ 128
    → plug path part ≡ tree_at bytes (root_of bytes) → Leads id path → next_towards id (branch_of bytes (top_of part)) ≡ Some child
    → IsStep bytes id (top_of part) child
next-step bytes r id child (Leaf node order) path are fits whole leads next =
    absurd (none_some child (sym (ap (next_towards id) (branch-leaf bytes node order (held-part bytes r path (Leaf node order) whole))) ∙ next))
next-step bytes r id child (Inner node prefix key first second) path are fits whole leads next =
    let part : Tree = Inner node prefix key first second in
    let held : Holds bytes part = held-part bytes r path part whole in
    let branch : Branch = record { prefix = prefix; key = key; first = top_of first; second = top_of second } in
    let is : next_towards id (branch_of bytes node) ≡ next_towards id (Some branch) = ap (next_towards id) (branch-inner bytes node prefix key first second held) in
    let key_fits : key < 2 ^ 128 = subst (λ (n : ℕ). n < 2 ^ 128) held.0.keys (key-lt bytes node are) in
    elim (cases_lt (shared_bits key id) prefix) [
      | inl lt ↦ absurd (none_some child (sym (is ∙ goes_nowhere id branch lt) ∙ next))
      | inr le ↦
          let same : child_towards id branch ≡ child = same_some (child_towards id branch) child (sym (is ∙ goes_on id branch le) ∙ next) in
          subst (λ (n : ℕ). IsStep bytes id node n) same
          (next-inner bytes r id node prefix key first second path whole leads (prefixed-part bytes r path part whole).1 fits key_fits le)
    ]
next-step bytes r id child (Other node) path are fits whole leads next = absurd (held-part bytes r path (Other node) whole)

-- where it does not go on
pub next-stops : (bytes : List ℕ) → Rooted bytes → (id : ℕ) (part : Tree) (path : Path)
    → plug path part ≡ tree_at bytes (root_of bytes) → next_towards id (branch_of bytes (top_of part)) ≡ None → Stops id part
next-stops bytes r id (Leaf node order) path whole none = tt
next-stops bytes r id (Inner node prefix key first second) path whole none =
    let part : Tree = Inner node prefix key first second in
    let branch : Branch = record { prefix = prefix; key = key; first = top_of first; second = top_of second } in
    let is : next_towards id (branch_of bytes node) ≡ next_towards id (Some branch)
    = ap (next_towards id) (branch-inner bytes node prefix key first second (held-part bytes r path part whole)) in
    elim (cases_lt (shared_bits key id) prefix) [
      | inl lt ↦ lt
      | inr le ↦ absurd (none_some (child_towards id branch) (sym none ∙ is ∙ goes_on id branch le))
    ]
next-stops bytes r id (Other node) path whole none = absurd (held-part bytes r path (Other node) whole)

-- the key at the top of a part is the one that stands in its node
pub key-top : (bytes : List ℕ) (part : Tree) → Holds bytes part → key_of bytes (top_of part) ≡ top_key part
unfolding order_in
key-top bytes (Leaf node order) h = ap (λ (o : Order). o.id) h.said
key-top bytes (Inner node prefix key first second) h = h.0.keys
key-top bytes (Other node) h = absurd h

-- the prefix of an inner node on a way
pub branch-prefix : (bytes : List ℕ) → Rooted bytes → (part : Tree) (path : Path) → plug path part ≡ tree_at bytes (root_of bytes)
    → IfSome (branch_of bytes (top_of part)) (λ (b : Branch). b.prefix < 128)
branch-prefix bytes r (Leaf node order) path whole =
    subst (λ (o : Option Branch). IfSome o (λ (b : Branch). b.prefix < 128)) (sym (branch-leaf bytes node order (held-part bytes r path (Leaf node order) whole))) tt
branch-prefix bytes r (Inner node prefix key first second) path whole =
    let part : Tree = Inner node prefix key first second in
    subst (λ (o : Option Branch). IfSome o (λ (b : Branch). b.prefix < 128))
    (sym (branch-inner bytes node prefix key first second (held-part bytes r path part whole))) (prefixed-part bytes r path part whole).1
branch-prefix bytes r (Other node) path whole = absurd (held-part bytes r path (Other node) whole)

-- the walk of a new id, from its record
pub way-step : (bytes : List ℕ) → Rooted bytes → (id node child : ℕ) → AreBytes bytes → id < 2 ^ 128 → IsOnWay (tree_at bytes (root_of bytes)) id node
    → next_towards id (branch_of bytes node) ≡ Some child → IsStep bytes id node child
way-step bytes r id node child are fits way next =
    subst (λ (n : ℕ). IsStep bytes id n child) way.top
    (next-step bytes r id child way.part way.path are fits way.whole way.leads (ap (λ (n : ℕ). next_towards id (branch_of bytes n)) way.top ∙ next))

pub way-stops : (bytes : List ℕ) → Rooted bytes → (id node : ℕ) → (way : IsOnWay (tree_at bytes (root_of bytes)) id node)
    → next_towards id (branch_of bytes node) ≡ None → Stops id way.part
way-stops bytes r id node way none =
    next-stops bytes r id way.part way.path way.whole (ap (λ (n : ℕ). next_towards id (branch_of bytes n)) way.top ∙ none)

pub way-prefix : (bytes : List ℕ) → Rooted bytes → (id node : ℕ) → IsOnWay (tree_at bytes (root_of bytes)) id node
    → IfSome (branch_of bytes node) (λ (b : Branch). b.prefix < 128)
way-prefix bytes r id node way =
    subst (λ (n : ℕ). IfSome (branch_of bytes n) (λ (b : Branch). b.prefix < 128)) way.top (branch-prefix bytes r way.part way.path way.whole)

pub way-key : (bytes : List ℕ) → Rooted bytes → (id node : ℕ) → (way : IsOnWay (tree_at bytes (root_of bytes)) id node) → key_of bytes node ≡ top_key way.part
way-key bytes r id node way =
    ap (key_of bytes) (sym way.top) ∙ key-top bytes way.part (held-part bytes r way.path way.part way.whole)

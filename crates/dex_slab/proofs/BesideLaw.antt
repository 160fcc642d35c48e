-- A new leaf on a side that has others, from the bytes of each write.
use Rattle.std.proofs.Common.{◌≡◌, ◌≢◌, ℕ, ◌+◌, ◌<◌, ◌≤◌, ◌^◌, Bool, true, false, ◌==◌, cond, List, [], ◌∷◌, length, Option, Some, inl, inr, refl, sym, ap, subst, ◌∙◌, arith, lit≤}
use Rattle.std.proofs.lemmas.Bool.{cases_eq, eq-eqb, ne_eqb}
use Rattle.dex_fields.specs.declared.slab.TheConstants.{LEAF_COUNT, ROOT_NODE}
use Rattle.dex_fields.specs.Bytes.{with_number}
use Rattle.dex_types.specs.declared.orders.Order.{Order}
use Rattle.dex_types.specs.declared.terms.Side.{Side}
use Rattle.dex_types.specs.BookSide.{CanRest}
use Rattle.dex_types.specs.Posting.{posted}
use Rattle.dex_slab.specs.declared.nodes.Branch.{Branch}
use Rattle.dex_slab.specs.Changes.{ChangesHeader, ChangesNode}
use Rattle.dex_slab.specs.Held.{IsInner, IsLeaf}
use Rattle.dex_slab.specs.Nodes.{bump_of, count_of, free_len_of, node_bytes, nodes_within, root_of}
use Rattle.dex_slab.specs.Path.{Path, Root, InFirst, InSecond, Leads, bit_behind, plug, shared_bits, top_key, top_of}
use Rattle.dex_slab.specs.Slab.{IsShared, IsSlab, IsSlabSize, IsTree, free_of, leaves_in, orders_in, resting, room_in, times}
use Rattle.dex_slab.specs.Tree.{Tree, Leaf, Inner, Other, leaves_of, nodes_of, orders_of}
use Rattle.dex_slab.specs.Walks.{RestsIn, Stops, branch_above, tree_at}
use Rattle.dex_slab.proofs.Holding.{top-met}
use Rattle.dex_slab.proofs.Entering.{IsGrown, bit_number, first_of, grown, orders_grown, second_of, stands_grown}
use Rattle.dex_slab.proofs.KeyBits.{bit_behind-lt}
use Rattle.dex_slab.proofs.NodeWrites.{ChangesHeader-by, ChangesHeader-then, number_kept}
use Rattle.dex_slab.proofs.Parting.{IsNewAt}
use Rattle.dex_slab.proofs.Plugs.{times-plug}
use Rattle.dex_slab.proofs.Standing.{IsHeld, IsSlab-from, Stands, nodes-leaves, tree_of-stands}
use Rattle.dex_slab.proofs.Times.{times-append}
use Rattle.dex_slab.proofs.WalkLaw.{Rooted}
use Rattle.dex_slab.proofs.Written.{IsShared-written, IsWritten, written-count, written-node, written-then}

-- ---- what the bytes before are

-- a part with the id is a tree with the id
RestsIn-plug : (id : ℕ) (path : Path) (t : Tree) → RestsIn id t → RestsIn id (plug path t)
RestsIn-plug id Root t h = h
RestsIn-plug id (InFirst node prefix key second up) t h = RestsIn-plug id up (Inner node prefix key t second) (inl h)
RestsIn-plug id (InSecond node prefix key first up) t h = RestsIn-plug id up (Inner node prefix key first t) (inr h)

pub new_at : (id : ℕ) (path : Path) (part : Tree) → (RestsIn id (plug path part) → ⊥) → IsNewAt id part
new_at id path (Leaf node order) new = λ e. new (RestsIn-plug id path (Leaf node order) e)
new_at id path (Inner node prefix key first second) new = tt
new_at id path (Other node) new = tt

-- how many leaves the tree has
pub leaves_rooted : (bytes : List ℕ) → IsSlab bytes → (r : Rooted bytes) → count_of bytes ≡ leaves_of (tree_at bytes (root_of bytes))
leaves_rooted bytes h r = subst (λ (o : Option Tree). count_of bytes ≡ leaves_in o) r.is h.count

-- two nodes are to spare where there is room for one more order
pub nodes_spare : (bytes : List ℕ) → IsSlab bytes → (r : Rooted bytes) → count_of bytes < room_in bytes
    → length (nodes_of (tree_at bytes (root_of bytes))) + 2 ≤ nodes_within (length bytes)
nodes_spare bytes h r room = omega (arith, leaves_rooted bytes h r, nodes-leaves (tree_at bytes (root_of bytes)) r.good.known)

-- ---- the writes

-- two nodes were taken, one got a copy of the node at the place, one the new leaf, and the place the new inner node
pub record IsEntered (old b1 b2 b3 b4 b5 new : List ℕ) (place moved leaf count : ℕ) (order : Order) (branch : Branch) : Type 0 where
  pub first_taken : ChangesHeader old b1
  pub second_taken : ChangesHeader b1 b2
  pub shared : IsShared b2 (leaf ∷ moved ∷ nodes_of (tree_at old (root_of old))) (free_of b2)
  pub root : root_of b2 ≡ root_of old
  pub copied : node_bytes b3 moved ≡ node_bytes b2 place
  pub copy_changes : ChangesNode moved b2 b3
  pub leaf_is : IsLeaf (node_bytes b4 leaf) order
  pub leaf_changes : ChangesNode leaf b3 b4
  pub inner_is : IsInner (node_bytes b5 place) branch.prefix branch.key branch.first branch.second
  pub inner_changes : ChangesNode place b4 b5
  pub counted : new ≡ with_number b5 LEAF_COUNT count
  pub counts : count_of new ≡ count
  pub long : length new ≡ length b2
  pub length_old : length b2 ≡ length old

module _ (old b1 b2 b3 b4 b5 new : List ℕ) (place moved leaf count : ℕ) (order : Order) (branch : Branch)
    (e : IsEntered old b1 b2 b3 b4 b5 new place moved leaf count order branch) where
  nodes_written : IsWritten (moved ∷ leaf ∷ place ∷ []) b2 new
  nodes_written =
      written-then (moved ∷ []) (leaf ∷ place ∷ []) b2 b3 new (written-node moved b2 b3 e.copy_changes)
      (written-then (leaf ∷ []) (place ∷ []) b3 b4 new (written-node leaf b3 b4 e.leaf_changes)
      (written-then (place ∷ []) [] b4 b5 new (written-node place b4 b5 e.inner_changes) (written-count b5 new count e.counted)))

  pub bump_entered : bump_of new ≡ bump_of b2
  bump_entered = nodes_written.bump

  pub free_entered : free_len_of new ≡ free_len_of b2
  free_entered = nodes_written.len

  -- before the writes every node was as it had been
  before_writes : (n : ℕ) → node_bytes b2 n ≡ node_bytes old n
  before_writes = (ChangesHeader-then old b1 b2 e.first_taken e.second_taken).nodes

  counted_nodes : (n : ℕ) → node_bytes new n ≡ node_bytes b5 n
  counted_nodes = (ChangesHeader-by b5 new LEAF_COUNT count e.counted (lit≤ tt) (lit≤ tt)).nodes

  module _ (path : Path) (part : Tree) (whole : plug path part ≡ tree_at old (root_of old)) (top : top_of part ≡ place) where
    place_met : 1 ≤ times place (nodes_of (tree_at old (root_of old)))
    place_met =
        subst (λ (t : Tree). 1 ≤ times place (nodes_of t)) whole
        (subst (λ (n : ℕ). 1 ≤ times n (nodes_of (plug path part))) top (omega (arith, times-plug (top_of part) path part, top-met part)))

    once : (n : ℕ) → times n (leaf ∷ moved ∷ nodes_of (tree_at old (root_of old))) ≤ 1
    once n = omega (arith, e.shared.once n, times-append n (leaf ∷ moved ∷ nodes_of (tree_at old (root_of old))) (free_of b2))

    leaf_moved : leaf ≢ moved
    leaf_moved same_node = omega (arith, once leaf)

    place_leaf : place ≢ leaf
    place_leaf same_node = omega (arith, once place, place_met)

    place_moved : place ≢ moved
    place_moved same_node = omega (arith, once place, place_met)

    kept_beside : (n : ℕ) → n ≢ leaf → n ≢ moved → n ≢ place → node_bytes new n ≡ node_bytes old n
    kept_beside n no_leaf no_moved no_place =
        counted_nodes n ∙ e.inner_changes.nodes n no_place ∙ e.leaf_changes.nodes n no_leaf ∙ e.copy_changes.nodes n no_moved ∙ before_writes n

    copied_now : node_bytes new moved ≡ node_bytes old place
    copied_now =
        counted_nodes moved ∙ e.inner_changes.nodes moved (λ i. place_moved (sym i)) ∙ e.leaf_changes.nodes moved (λ i. leaf_moved (sym i)) ∙ e.copied
        ∙ before_writes place

    leaf_now : IsLeaf (node_bytes new leaf) order
    leaf_now = subst (λ (l : List ℕ). IsLeaf l order) (sym (counted_nodes leaf ∙ e.inner_changes.nodes leaf (λ i. place_leaf (sym i)))) e.leaf_is

    inner_now : IsInner (node_bytes new place) branch.prefix branch.key branch.first branch.second
    inner_now = subst (λ (l : List ℕ). IsInner l branch.prefix branch.key branch.first branch.second) (sym (counted_nodes place)) e.inner_is

    root_now : root_of new ≡ root_of old
    root_now =
        number_kept b5 new LEAF_COUNT count ROOT_NODE e.counted refl ∙ e.inner_changes.header_numbers ROOT_NODE (lit≤ tt)
        ∙ e.leaf_changes.header_numbers ROOT_NODE (lit≤ tt) ∙ e.copy_changes.header_numbers ROOT_NODE (lit≤ tt) ∙ e.root

    place_elsewhere : (n : ℕ) → times n (leaf ∷ moved ∷ nodes_of (tree_at old (root_of old))) ≡ 0 → n ≢ place
    place_elsewhere n none same_node =
        let absent : times place (leaf ∷ moved ∷ nodes_of (tree_at old (root_of old))) ≡ 0 =
        subst (λ (k : ℕ). times k (leaf ∷ moved ∷ nodes_of (tree_at old (root_of old))) ≡ 0) same_node none in
        omega (arith, place_met)

    among : (n : ℕ) → times n (leaf ∷ moved ∷ nodes_of (tree_at old (root_of old))) ≡ 0 → times n (moved ∷ leaf ∷ place ∷ []) ≡ 0
    among n none = omega (arith, place_elsewhere n none)

    shared_now : IsShared new (leaf ∷ moved ∷ nodes_of (tree_at old (root_of old))) (free_of new)
    shared_now = IsShared-written (moved ∷ leaf ∷ place ∷ []) b2 new (leaf ∷ moved ∷ nodes_of (tree_at old (root_of old))) nodes_written e.shared among e.long

-- ---- what they leave

-- the bytes are a slab with one order more
pub record IsInserted (old new : List ℕ) (order : Order) : Type 0 where
  pub tree : Option Tree
  pub stands : Stands new tree
  pub orders : (side : Side) → orders_in side tree ≡ posted side order (resting side old)

-- a bit as a number
bit-is : (n : ℕ) → n < 2 → n ≡ bit_number (n == 1)
bit-is n lt =
    elim (cases_eq n 1) [
      | inl one ↦ rw (eq-eqb n 1 one) one
      | inr other ↦ rw (ne_eqb n 1 other) (omega arith)
    ]

inner_by : (one : Bool) (piece : List ℕ) (shared id leaf moved : ℕ)
    → (let b : Branch = cond one (record { prefix = shared; key = id; first = moved; second = leaf }) (record { prefix = shared; key = id; first = leaf; second = moved })
    in IsInner piece b.prefix b.key b.first b.second)
    → IsInner piece shared id (first_of one leaf moved) (second_of one leaf moved)
inner_by true piece shared id leaf moved h = h
inner_by false piece shared id leaf moved h = h

module _ (old b1 b2 b3 b4 b5 new : List ℕ) (moved leaf shared : ℕ) (order : Order) (path : Path) (part : Tree)
    (e : IsEntered old b1 b2 b3 b4 b5 new (top_of part) moved leaf (count_of old + 1) order (branch_above shared order.id leaf moved))
    (slab : IsSlab old) (r : Rooted old) (whole : plug path part ≡ tree_at old (root_of old)) (leads : Leads order.id path) (stops : Stops order.id part)
    (shares : shared ≡ shared_bits (top_key part) order.id) (fresh : RestsIn order.id (tree_at old (root_of old)) → ⊥) (can_rest : CanRest order)
    (fits : order.id < 2 ^ 128) (low : top_key part < 2 ^ 128) where
  abbrev one : Bool
  one = bit_behind (shared_bits (top_key part) order.id) order.id == 1

  good : IsTree (plug path part)
  good = subst (λ (t : Tree). IsTree t) (sym whole) r.good

  fresh_at : IsNewAt order.id part
  fresh_at = new_at order.id path part (subst (λ (t : Tree). RestsIn order.id t → ⊥) (sym whole) fresh)

  bit : bit_behind (shared_bits (top_key part) order.id) order.id ≡ bit_number one
  bit = bit-is (bit_behind (shared_bits (top_key part) order.id) order.id) (bit_behind-lt (shared_bits (top_key part) order.id) order.id)

  is_grown : IsGrown path part order leaf moved good fits low leads stops fresh_at can_rest one bit old new
  is_grown = record {
    held = subst (λ (t : Tree). IsHeld old t) (sym whole) r.held;
    size = subst (λ (n : ℕ). IsSlabSize n) (sym (e.long ∙ e.length_old)) slab.size;
    shared = subst (λ (t : Tree). IsShared new (leaf ∷ moved ∷ nodes_of t) (free_of new)) (sym whole)
        (shared_now old b1 b2 b3 b4 b5 new (top_of part) moved leaf (count_of old + 1) order (branch_above shared order.id leaf moved) e path part whole refl);
    count = e.counts ∙ ap (λ (n : ℕ). n + 1) (leaves_rooted old slab r) ∙ ap (λ (t : Tree). leaves_of t + 1) (sym whole);
    root = root_now old b1 b2 b3 b4 b5 new (top_of part) moved leaf (count_of old + 1) order (branch_above shared order.id leaf moved) e path part whole refl;
    leaf_is = leaf_now old b1 b2 b3 b4 b5 new (top_of part) moved leaf (count_of old + 1) order (branch_above shared order.id leaf moved) e path part whole refl;
    copied = copied_now old b1 b2 b3 b4 b5 new (top_of part) moved leaf (count_of old + 1) order (branch_above shared order.id leaf moved) e path part whole refl;
    inner_is = inner_by one (node_bytes new (top_of part)) (shared_bits (top_key part) order.id) order.id leaf moved
        (subst (λ (s : ℕ). let b : Branch = branch_above s order.id leaf moved in IsInner (node_bytes new (top_of part)) b.prefix b.key b.first b.second) shares
        (inner_now old b1 b2 b3 b4 b5 new (top_of part) moved leaf (count_of old + 1) order (branch_above shared order.id leaf moved) e path part whole refl));
    kept = kept_beside old b1 b2 b3 b4 b5 new (top_of part) moved leaf (count_of old + 1) order (branch_above shared order.id leaf moved) e path part whole refl;
  }

  pub inserted : IsInserted old new order
  inserted = record {
    tree = Some (plug path (grown path part order leaf moved good fits low leads stops fresh_at can_rest one bit));
    stands = stands_grown path part order leaf moved good fits low leads stops fresh_at can_rest one bit old new is_grown;
    orders = λ side.
        orders_grown path part order leaf moved good fits low leads stops fresh_at can_rest one bit side
        ∙ ap (λ (t : Tree). posted side order (orders_of side t)) whole
        ∙ ap (λ (o : Option Tree). posted side order (orders_in side o)) (sym r.is);
  }

pub inserted-slab : (old new : List ℕ) (order : Order) → IsInserted old new order → IsSlab new
inserted-slab old new order h = IsSlab-from new h.tree h.stands

pub inserted-orders : (old new : List ℕ) (order : Order) → IsInserted old new order → (side : Side) → resting side new ≡ posted side order (resting side old)
inserted-orders old new order h side = ap (orders_in side) (tree_of-stands new h.tree h.stands) ∙ h.orders side

-- A leaf and the inner node above it are given back: what the bytes are then.
use Rattle.std.proofs.Common.{◌≡◌, ◌≢◌, ℕ, ◌-◌, ◌≤◌, List, [], ◌∷◌, length, Option, Some, refl, sym, ap, subst, ◌∙◌, arith, lit≤}
use Rattle.dex_fields.specs.declared.slab.TheConstants.{LEAF_COUNT, ROOT_NODE}
use Rattle.dex_fields.specs.Bytes.{with_number}
use Rattle.dex_types.specs.declared.terms.Side.{Side}
use Rattle.dex_types.specs.Cancel.{without_order}
use Rattle.dex_slab.specs.Changes.{ChangesNode}
use Rattle.dex_slab.specs.Nodes.{count_of, node_bytes, root_of}
use Rattle.dex_slab.specs.Path.{plug, top_of}
use Rattle.dex_slab.specs.Slab.{IsShared, IsSlab, IsSlabSize, IsTree, free_of, orders_in, resting, times}
use Rattle.dex_slab.specs.Tree.{Tree, Leaf, leaves_of, nodes_of, orders_of}
use Rattle.dex_slab.specs.Walks.{IsFound, sibling_of, tree_at}
use Rattle.dex_slab.proofs.BesideLaw.{leaves_rooted}
use Rattle.dex_slab.proofs.Leaving.{beside, good_left, leaves_left, left, length_left, orders-left, parent_left, times_left, top_left}
use Rattle.dex_slab.proofs.NodeWrites.{ChangesHeader-by, number_kept}
use Rattle.dex_slab.proofs.PoolLaw.{IsShared-order}
use Rattle.dex_slab.proofs.RemoveLaw.{holds_left, sibling_is}
use Rattle.dex_slab.proofs.Standing.{IsHeld, IsSlab-from, Stands, tree_of-stands}
use Rattle.dex_slab.proofs.Times.{times-append}
use Rattle.dex_slab.proofs.WalkLaw.{Rooted}
use Rattle.dex_slab.proofs.Written.{IsShared-written, written-count, written-node}

-- the bytes are a slab without the order of an id
pub record IsRemoved (old new : List ℕ) (id : ℕ) : Type 0 where
  pub tree : Option Tree
  pub stands : Stands new tree
  pub orders : (side : Side) → orders_in side tree ≡ without_order id (resting side old)

pub removed-slab : (old new : List ℕ) (id : ℕ) → IsRemoved old new id → IsSlab new
removed-slab old new id h = IsSlab-from new h.tree h.stands

pub removed-orders : (old new : List ℕ) (id : ℕ) → IsRemoved old new id → (side : Side) → resting side new ≡ without_order id (resting side old)
removed-orders old new id h side = ap (orders_in side) (tree_of-stands new h.tree h.stands) ∙ h.orders side

-- ---- where the leaf was found

module _ (old : List ℕ) (r : Rooted old) (id leaf parent : ℕ) (f : IsFound (tree_at old (root_of old)) id (Some parent) leaf) where
  abbrev found_tree : Tree
  found_tree = plug f.path (Leaf leaf f.order)

  found_good : IsTree found_tree
  found_good = subst (λ (t : Tree). IsTree t) (sym f.whole) r.good

  found_held : IsHeld old found_tree
  found_held = subst (λ (t : Tree). IsHeld old t) (sym f.whole) r.held

  found_shared : IsShared old (nodes_of found_tree) (free_of old)
  found_shared = subst (λ (t : Tree). IsShared old (nodes_of t) (free_of old)) (sym f.whole) r.shared

  found_once : (n : ℕ) → times n (nodes_of found_tree) ≤ 1
  found_once n = omega (arith, found_shared.once n, times-append n (nodes_of found_tree) (free_of old))

  -- the nodes in use, the two that are given back first
  pub shared_found : IsShared old (top_of (beside f.path) ∷ leaf ∷ nodes_of (left f.path)) (free_of old)
  shared_found =
      IsShared-order old (nodes_of found_tree) (top_of (beside f.path) ∷ leaf ∷ nodes_of (left f.path)) (free_of old) found_shared
      (times_left id leaf parent f.order f.path f.above) (length_left id leaf parent f.order f.path f.above)

  pub sibling_found : sibling_of old parent leaf ≡ top_of (beside f.path)
  sibling_found = sibling_is old leaf parent f.order f.path f.above found_held.nodes found_once

  pub parent_used : 1 ≤ times parent (nodes_of (left f.path))
  parent_used = parent_left id leaf parent f.order f.path f.above

  once_found : (n : ℕ) → times n (top_of (beside f.path) ∷ leaf ∷ nodes_of (left f.path)) ≤ 1
  once_found n =
      omega (arith, shared_found.once n, times-append n (top_of (beside f.path) ∷ leaf ∷ nodes_of (left f.path)) (free_of old))

  pub parent_leaf : parent ≢ leaf
  parent_leaf e = absurd (omega (arith, once_found parent, parent_used))

  pub parent_sibling : parent ≢ top_of (beside f.path)
  parent_sibling e = absurd (omega (arith, once_found parent, parent_used))

-- ---- the writes

-- the sibling was copied to its parent's place, and its own node and the leaf were given back
pub record IsTaken (old b1 b2 b3 new : List ℕ) (parent leaf sibling count : ℕ) : Type 0 where
  pub copied : node_bytes b1 parent ≡ node_bytes old sibling
  pub copy_changes : ChangesNode parent old b1
  pub first_shared : (used : List ℕ) → IsShared b1 (sibling ∷ used) (free_of b1) → IsShared b2 used (free_of b2)
  pub first_nodes : (n : ℕ) → n ≢ sibling → node_bytes b2 n ≡ node_bytes b1 n
  pub first_root : root_of b2 ≡ root_of b1
  pub second_shared : (used : List ℕ) → IsShared b2 (leaf ∷ used) (free_of b2) → IsShared b3 used (free_of b3)
  pub second_nodes : (n : ℕ) → n ≢ leaf → node_bytes b3 n ≡ node_bytes b2 n
  pub second_root : root_of b3 ≡ root_of b2
  pub counted : new ≡ with_number b3 LEAF_COUNT count
  pub counts : count_of new ≡ count
  pub long_copied : length b1 ≡ length old
  pub long : length new ≡ length b3
  pub length_old : length new ≡ length old

module _ (old b1 b2 b3 new : List ℕ) (r : Rooted old) (slab : IsSlab old) (id leaf parent : ℕ) (f : IsFound (tree_at old (root_of old)) id (Some parent) leaf) where
  -- after the copy the nodes are shared as before
  pub shared_copied : ChangesNode parent old b1 → length b1 ≡ length old → IsShared b1 (top_of (beside f.path) ∷ leaf ∷ nodes_of (left f.path)) (free_of b1)
  shared_copied changes long =
      IsShared-written (parent ∷ []) old b1 (top_of (beside f.path) ∷ leaf ∷ nodes_of (left f.path)) (written-node parent old b1 changes)
      (shared_found old r id leaf parent f) among long where
        elsewhere : (n : ℕ) → times n (top_of (beside f.path) ∷ leaf ∷ nodes_of (left f.path)) ≡ 0 → n ≢ parent
        elsewhere n none e =
            let absent : times parent (top_of (beside f.path) ∷ leaf ∷ nodes_of (left f.path)) ≡ 0 =
            subst (λ (k : ℕ). times k (top_of (beside f.path) ∷ leaf ∷ nodes_of (left f.path)) ≡ 0) e none in
            absurd (omega (arith, parent_used old r id leaf parent f))

        among : (n : ℕ) → times n (top_of (beside f.path) ∷ leaf ∷ nodes_of (left f.path)) ≡ 0 → times n (parent ∷ []) ≡ 0
        among n none = omega (arith, elsewhere n none)

  module _ (e : IsTaken old b1 b2 b3 new parent leaf (top_of (beside f.path)) (count_of old - 1)) where
    counted_nodes : (n : ℕ) → node_bytes new n ≡ node_bytes b3 n
    counted_nodes = (ChangesHeader-by b3 new LEAF_COUNT (count_of old - 1) e.counted (lit≤ tt) (lit≤ tt)).nodes

    kept_others : (n : ℕ) → n ≢ parent → n ≢ leaf → n ≢ top_of (beside f.path) → node_bytes new n ≡ node_bytes old n
    kept_others n no_parent no_leaf no_sibling =
        counted_nodes n ∙ e.second_nodes n no_leaf ∙ e.first_nodes n no_sibling ∙ e.copy_changes.nodes n no_parent

    copied_now : node_bytes new parent ≡ node_bytes old (top_of (beside f.path))
    copied_now =
        counted_nodes parent ∙ e.second_nodes parent (parent_leaf old r id leaf parent f) ∙ e.first_nodes parent (parent_sibling old r id leaf parent f) ∙ e.copied

    root_now : root_of new ≡ root_of old
    root_now =
        number_kept b3 new LEAF_COUNT (count_of old - 1) ROOT_NODE e.counted refl ∙ e.second_root ∙ e.first_root
        ∙ e.copy_changes.header_numbers ROOT_NODE (lit≤ tt)

    shared_now : IsShared new (nodes_of (left f.path)) (free_of new)
    shared_now =
        IsShared-written [] b3 new (nodes_of (left f.path)) (written-count b3 new (count_of old - 1) e.counted)
        (e.second_shared (nodes_of (left f.path)) (e.first_shared (leaf ∷ nodes_of (left f.path)) (shared_copied e.copy_changes e.long_copied)))
        (λ n none. refl) e.long

    stands_now : Stands new (Some (left f.path))
    stands_now = record {
      size = subst (λ (n : ℕ). IsSlabSize n) (sym e.length_old) slab.size;
      shared = shared_now;
      count = omega (arith, e.counts, leaves_rooted old slab r, ap (λ (t : Tree). leaves_of t) f.whole, leaves_left id leaf parent f.order f.path f.above);
      good = good_left id leaf parent f.order f.path f.above (found_good old r id leaf parent f) f.leads;
      held = record {
        nodes = holds_left old new leaf parent f.order f.path f.above (found_held old r id leaf parent f).nodes copied_now kept_others (found_once old r id leaf parent f);
        root = top_left id leaf parent f.order f.path f.above ∙ (found_held old r id leaf parent f).root ∙ sym root_now;
      };
    }

    pub taken_off : IsRemoved old new id
    taken_off = record {
      tree = Some (left f.path);
      stands = stands_now;
      orders = λ side.
          orders-left side id leaf f.order f.path (found_good old r id leaf parent f) f.leads f.same parent f.above
          ∙ ap (λ (t : Tree). without_order id (orders_of side t)) f.whole
          ∙ ap (λ (o : Option Tree). without_order id (orders_in side o)) (sym r.is);
    }

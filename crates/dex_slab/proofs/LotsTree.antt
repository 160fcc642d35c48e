-- A slab after an order of it got other lots.
use Rattle.std.proofs.Common.{◌≡◌, ◌≢◌, ℕ, ◌+◌, ◌<◌, ◌≤◌, ◌^◌, List, length, Option, Some, refl, sym, ap, subst, ◌∙◌, arith, lit≤}
use Rattle.dex_fields.specs.declared.leaf_node.TheConstants.{QUANTITY}
use Rattle.dex_fields.specs.declared.slab.TheConstants.{BUMP_INDEX, FREE_LIST_HEAD, FREE_LIST_LEN, LEAF_COUNT, ROOT_NODE}
use Rattle.dex_fields.specs.Bytes.{end_of, with_number}
use Rattle.dex_fields.proofs.Writing.{length-with_number}
use Rattle.dex_types.specs.declared.terms.Side.{Side}
use Rattle.dex_types.specs.BookSide.{CanRest, with_lots}
use Rattle.dex_slab.specs.Held.{IsLeaf}
use Rattle.dex_slab.specs.Nodes.{in_node, key_of, node_bytes, node_field, root_of, tag_of}
use Rattle.dex_slab.specs.Path.{plug}
use Rattle.dex_slab.specs.Slab.{IsShared, IsSlab, IsSlabSize, IsTree, free_of, nodes_in, orders_in, resting, same, times, tree_of}
use Rattle.dex_slab.specs.Tree.{Tree, Leaf, leaves_of, nodes_of, orders_of}
use Rattle.dex_slab.specs.Walks.{IsFound, tree_at}
use Rattle.dex_slab.proofs.BesideLaw.{leaves_rooted}
use Rattle.dex_slab.proofs.FoundLaw.{leaf-below}
use Rattle.dex_slab.proofs.Holding.{AreSame, Holds-part, Holds-plug, top-plug}
use Rattle.dex_slab.proofs.IdLists.{with_lots-behind}
use Rattle.dex_slab.proofs.Leaving.{others_before}
use Rattle.dex_slab.proofs.LotsLaw.{header_number, leaf_lotted, other_nodes}
use Rattle.dex_slab.proofs.NodeWrites.{node_within}
use Rattle.dex_slab.proofs.Plugs.{keys-plug, known-plug, leaves-plug, nodes-plug, path_nodes, prefixes-plug, rest-part, rest-plug, times-plug}
use Rattle.dex_slab.proofs.PoolLaw.{IsShared-order, IsShared-same}
use Rattle.dex_slab.proofs.Standing.{IsHeld, IsSlab-from, Stands, tree_of-stands}
use Rattle.dex_slab.proofs.Times.{times-append}
use Rattle.dex_slab.proofs.TreeOrders.{before, behind, orders-plug}
use Rattle.dex_slab.proofs.WalkLaw.{Rooted, key-top}

module _ (bytes : List ℕ) (slab : IsSlab bytes) (r : Rooted bytes) (id leaf lots : ℕ) (parent : Option ℕ)
    (f : IsFound (tree_at bytes (root_of bytes)) id parent leaf) (some : 1 ≤ lots) (fits : lots < 2 ^ 64) where
  abbrev old_tree : Tree
  old_tree = plug f.path (Leaf leaf f.order)

  abbrev lotted_leaf : Tree
  lotted_leaf = Leaf leaf (record f.order { lots = lots })

  abbrev new_tree : Tree
  new_tree = plug f.path lotted_leaf

  old_good : IsTree old_tree
  old_good = subst (λ (t : Tree). IsTree t) (sym f.whole) r.good

  old_held : IsHeld bytes old_tree
  old_held = subst (λ (t : Tree). IsHeld bytes t) (sym f.whole) r.held

  old_shared : IsShared bytes (nodes_of old_tree) (free_of bytes)
  old_shared = subst (λ (t : Tree). IsShared bytes (nodes_of t) (free_of bytes)) (sym f.whole) r.shared

  rests_lotted : CanRest (record f.order { lots = lots })
  rests_lotted =
      let before_it = rest-part f.path (Leaf leaf f.order) old_good.can_rest in
      record { price = before_it.price; lots = some; slot = before_it.slot; tier = before_it.tier }

  good_lotted : IsTree new_tree
  good_lotted = record {
    known = known-plug f.path (Leaf leaf f.order) lotted_leaf old_good.known tt;
    prefixes = prefixes-plug f.path (Leaf leaf f.order) lotted_leaf old_good.prefixes tt;
    keys = keys-plug id f.path (Leaf leaf f.order) lotted_leaf old_good.keys f.leads tt (λ Fact here all. all);
    can_rest = rest-plug f.path (Leaf leaf f.order) lotted_leaf old_good.can_rest rests_lotted;
  }

  within : end_of (node_field leaf) ≤ length bytes
  within = node_within bytes leaf (leaf-below bytes r id leaf parent f)

  leaf_is : IsLeaf (node_bytes bytes leaf) f.order
  leaf_is = Holds-part bytes f.path (Leaf leaf f.order) old_held.nodes

  abbrev new : List ℕ
  new = with_number bytes (in_node leaf QUANTITY) lots

  others : (n : ℕ) → n ≢ leaf → node_bytes new n ≡ node_bytes bytes n
  others = other_nodes bytes leaf lots f.order within fits leaf_is

  once : (n : ℕ) → same leaf n + times n (path_nodes f.path) + times n (free_of bytes) ≤ 1
  once n = omega (arith, old_shared.once n, times-append n (nodes_of old_tree) (free_of bytes), times-plug n f.path (Leaf leaf f.order))

  path_same : AreSame (path_nodes f.path) bytes new
  path_same n met = others n (λ e. absurd (omega (arith, once n)))

  free_same : AreSame (free_of bytes) bytes new
  free_same n met = others n (λ e. absurd (omega (arith, once n)))

  long : length new ≡ length bytes
  long = length-with_number bytes (in_node leaf QUANTITY) lots

  shared_lotted : IsShared new (nodes_of new_tree) (free_of new)
  shared_lotted =
      IsShared-order new (nodes_of old_tree) (nodes_of new_tree) (free_of new)
      (IsShared-same bytes new (nodes_of old_tree) old_shared free_same long
      (header_number bytes leaf lots f.order within fits leaf_is BUMP_INDEX (lit≤ tt))
      (header_number bytes leaf lots f.order within fits leaf_is FREE_LIST_LEN (lit≤ tt))
      (header_number bytes leaf lots f.order within fits leaf_is FREE_LIST_HEAD (lit≤ tt)))
      (λ n. times-plug n f.path lotted_leaf ∙ sym (times-plug n f.path (Leaf leaf f.order)))
      (nodes-plug f.path lotted_leaf ∙ sym (nodes-plug f.path (Leaf leaf f.order)))

  pub stands_lotted : Stands new (Some new_tree)
  stands_lotted = record {
    size = subst (λ (n : ℕ). IsSlabSize n) (sym long) slab.size;
    shared = shared_lotted;
    count = header_number bytes leaf lots f.order within fits leaf_is LEAF_COUNT (lit≤ tt) ∙ leaves_rooted bytes slab r ∙ ap (λ (t : Tree). leaves_of t) (sym f.whole)
        ∙ leaves-plug f.path (Leaf leaf f.order) ∙ sym (leaves-plug f.path lotted_leaf);
    good = good_lotted;
    held = record {
      nodes = Holds-plug bytes new f.path (Leaf leaf f.order) lotted_leaf old_held.nodes (leaf_lotted bytes leaf lots f.order within fits leaf_is) refl path_same;
      root = top-plug f.path lotted_leaf (Leaf leaf f.order) refl ∙ old_held.root
          ∙ sym (header_number bytes leaf lots f.order within fits leaf_is ROOT_NODE (lit≤ tt));
    };
  }

  pub slab_lotted : IsSlab new
  slab_lotted = IsSlab-from new (Some new_tree) stands_lotted

  orders_tree : (side : Side) → orders_of side new_tree ≡ with_lots id lots (orders_of side old_tree)
  orders_tree side =
      orders-plug side f.path lotted_leaf
      ∙ sym (ap (with_lots id lots) (orders-plug side f.path (Leaf leaf f.order))
      ∙ with_lots-behind id lots (before side f.path) f.order (behind side f.path) (others_before side id leaf f.order f.path old_good f.leads f.same) f.same)

  pub orders_lotted : (side : Side) → resting side new ≡ with_lots id lots (resting side bytes)
  orders_lotted side =
      ap (orders_in side) (tree_of-stands new (Some new_tree) stands_lotted)
      ∙ orders_tree side
      ∙ ap (λ (t : Tree). with_lots id lots (orders_of side t)) f.whole
      ∙ ap (λ (o : Option Tree). with_lots id lots (orders_in side o)) (sym r.is)

  pub leaf_tag : tag_of bytes leaf ≡ 2
  leaf_tag = leaf_is.tag

  pub leaf_key : key_of bytes leaf ≡ id
  leaf_key = key-top bytes (Leaf leaf f.order) leaf_is ∙ f.same

  pub leaf_within : end_of (in_node leaf QUANTITY) ≤ length bytes
  leaf_within = omega (arith, within)

  pub leaf_reached : 1 ≤ times leaf (nodes_in (tree_of bytes))
  leaf_reached =
      subst (λ (o : Option Tree). 1 ≤ times leaf (nodes_in o)) (sym r.is)
      (subst (λ (t : Tree). 1 ≤ times leaf (nodes_of t)) f.whole (omega (arith, times-plug leaf f.path (Leaf leaf f.order))))

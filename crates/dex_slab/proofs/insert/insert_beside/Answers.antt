use Rattle.std.proofs.Common.{rules, ◌≡◌, ◌∷◌, ◌+◌, ◌<◌, ◌^◌, ℕ, ap, length, subst, sym, ◌∙◌, arith, lit≤}
use Rattle.dex_fields.specs.declared.slab.TheConstants.{LEAF_COUNT}
use Rattle.dex_fields.specs.Bytes.{with_number}
use Rattle.dex_slab.specs.declared.nodes.Branch.{Branch}
use Rattle.dex_slab.specs.Held.{IsInner}
use Rattle.dex_slab.specs.Nodes.{count_of, node_bytes, root_of}
use Rattle.dex_slab.specs.Path.{top_key}
use Rattle.dex_slab.specs.Tree.{Tree, nodes_of}
use Rattle.dex_slab.specs.Walks.{RestsIn, branch_above, tree_at}
use Rattle.dex_slab.proofs.BesideLaw.{IsEntered, IsInserted, bump_entered, free_entered, inserted, inserted-orders, inserted-slab, new_at, nodes_spare}
use Rattle.dex_slab.proofs.NodeWrites.{ChangesHeader-by, node_within}
use Rattle.dex_slab.proofs.Parting.{parts-low}
use Rattle.dex_slab.proofs.Plugs.{least_at}
use Rattle.dex_slab.proofs.PoolLaw.{used-below}
use Rattle.dex_slab.proofs.Times.{times-some}
use Rattle.dex_slab.proofs.WalkLaw.{prefixed-part, rooted, way-below, way-key}
use Rattle.dex_slab.proofs.insert.insert_beside.Goals as goal

pub take_node-moved-requires : goal.take_node-moved-requires
take_node-moved-requires c =
    let old = c.args.bytes.now in
    let r = rooted old c.requires.slab c.requires.some in
    record {
      used = nodes_of (tree_at old (root_of old));
      shared = r.shared;
      spare = omega (arith, nodes_spare old c.requires.slab r c.requires.room);
      few = c.requires.slab.size.few;
    }

pub take_node-leaf-requires : goal.take_node-leaf-requires
take_node-leaf-requires c =
    let old = c.args.bytes.now in
    let r = rooted old c.requires.slab c.requires.some in
    let used = nodes_of (tree_at old (root_of old)) in
    let spare = nodes_spare old c.requires.slab r c.requires.room in
    record {
      used = c.take_node-moved.result ∷ used;
      shared = c.take_node-moved.ensures.shared used r.shared (omega (arith, spare));
      spare = omega (arith, spare);
      few = omega (arith, c.requires.slab.size.few);
    }

pub copy_node-requires-clause-from : goal.copy_node-requires-clause-from
copy_node-requires-clause-from c =
    let old = c.args.bytes.now in
    let r = rooted old c.requires.slab c.requires.some in
    let place = c.insertion_point-point.result.node in
    node_within c.take_node-leaf.new.bytes place (omega (arith, way-below old c.args.order.id place r c.insertion_point-point.ensures.point.way))

pub copy_node-requires-clause-to : goal.copy_node-requires-clause-to
copy_node-requires-clause-to c =
    let old = c.args.bytes.now in
    let r = rooted old c.requires.slab c.requires.some in
    let used = nodes_of (tree_at old (root_of old)) in
    let moved = c.take_node-moved.result in
    let shared = c.take_node-moved.ensures.shared used r.shared (omega (arith, nodes_spare old c.requires.slab r c.requires.room)) in
    node_within c.take_node-leaf.new.bytes moved
    (omega (arith, used-below c.take_node-moved.new.bytes (moved ∷ used) moved shared (times-some moved used)))

pub write_leaf-requires : goal.write_leaf-requires
write_leaf-requires c =
    let old = c.args.bytes.now in
    let r = rooted old c.requires.slab c.requires.some in
    let used = nodes_of (tree_at old (root_of old)) in
    let moved = c.take_node-moved.result in
    let leaf = c.take_node-leaf.result in
    let spare = nodes_spare old c.requires.slab r c.requires.room in
    let shared = c.take_node-leaf.ensures.shared (moved ∷ used) (c.take_node-moved.ensures.shared used r.shared (omega (arith, spare))) (omega (arith, spare)) in
    node_within c.copy_node.new.bytes leaf
    (omega (arith, used-below c.take_node-leaf.new.bytes (leaf ∷ moved ∷ used) leaf shared (times-some leaf (moved ∷ used))))

pub branch_above-branch-requires : goal.branch_above-branch-requires
branch_above-branch-requires c =
    let old = c.args.bytes.now in
    let r = rooted old c.requires.slab c.requires.some in
    let place = c.insertion_point-point.ensures.point in
    let way = place.way in
    let id = c.args.order.id in
    let fits : id < 2 ^ 128 = search rules in
    let low : top_key way.part < 2 ^ 128 = subst (λ (n : ℕ). n < 2 ^ 128) (way-key old r id c.insertion_point-point.result.node way) c.insertion_point-point.ensures.key in
    let fresh = new_at id way.path way.part (subst (λ (t : Tree). RestsIn id t → ⊥) (sym way.whole) c.requires.new) in
    omega (arith, place.shares, parts-low id fits way.part (least_at way.path) low place.stops fresh (prefixed-part old r way.path way.part way.whole))

pub write_inner-requires : goal.write_inner-requires
write_inner-requires c =
    let old = c.args.bytes.now in
    let r = rooted old c.requires.slab c.requires.some in
    let place = c.insertion_point-point.result.node in
    node_within c.write_leaf.new.bytes place (omega (arith, way-below old c.args.order.id place r c.insertion_point-point.ensures.point.way))

pub returns : goal.returns
returns c =
    let old = c.args.bytes.now in
    let b1 = c.take_node-moved.new.bytes in
    let b2 = c.take_node-leaf.new.bytes in
    let b3 = c.copy_node.new.bytes in
    let b4 = c.write_leaf.new.bytes in
    let b5 = c.write_inner.new.bytes in
    let new = c.put_u64.new.bytes in
    let order = c.args.order in
    let place = c.insertion_point-point.result.node in
    let shared_bits = c.insertion_point-point.result.shared in
    let moved = c.take_node-moved.result in
    let leaf = c.take_node-leaf.result in
    let r = rooted old c.requires.slab c.requires.some in
    let used = nodes_of (tree_at old (root_of old)) in
    let spare = nodes_spare old c.requires.slab r c.requires.room in
    let branch : Branch = branch_above shared_bits order.id leaf moved in
    let count : c.get_u64-count.result ≡ count_of old =
    c.get_u64-count.ensures ∙ c.write_inner.ensures.changes.header_numbers LEAF_COUNT (lit≤ tt) ∙ c.write_leaf.ensures.changes.header_numbers LEAF_COUNT (lit≤ tt)
    ∙ c.copy_node.ensures.changes.header_numbers LEAF_COUNT (lit≤ tt) ∙ c.take_node-leaf.ensures.count ∙ c.take_node-moved.ensures.count in
    let entered : IsEntered old b1 b2 b3 b4 b5 new place moved leaf (count_of old + 1) order branch = record {
      first_taken = c.take_node-moved.ensures.changes;
      second_taken = c.take_node-leaf.ensures.changes;
      shared = c.take_node-leaf.ensures.shared (moved ∷ used) (c.take_node-moved.ensures.shared used r.shared (omega (arith, spare))) (omega (arith, spare));
      root = c.take_node-leaf.ensures.root ∙ c.take_node-moved.ensures.root;
      copied = c.copy_node.ensures.copied;
      copy_changes = c.copy_node.ensures.changes;
      leaf_is = c.write_leaf.ensures.leaf;
      leaf_changes = c.write_leaf.ensures.changes;
      inner_is = subst (λ (b : Branch). IsInner (node_bytes b5 place) b.prefix b.key b.first b.second) c.branch_above-branch.ensures c.write_inner.ensures.inner;
      inner_changes = c.write_inner.ensures.changes;
      counted = c.put_u64.ensures.bytes ∙ ap (λ (n : ℕ). with_number b5 LEAF_COUNT (n + 1)) count;
      counts = c.put_u64.ensures.given ∙ ap (λ (n : ℕ). n + 1) count;
      long = search rules;
      length_old = search rules;
    } in
    let two_taken : length b2 ≡ length old = search rules in
    let found = c.insertion_point-point.ensures.point in
    let way = found.way in
    let fits : order.id < 2 ^ 128 = search rules in
    let low : top_key way.part < 2 ^ 128 = subst (λ (n : ℕ). n < 2 ^ 128) (way-key old r order.id place way) c.insertion_point-point.ensures.key in
    let done : IsInserted old new order =
    inserted old b1 b2 b3 b4 b5 new moved leaf shared_bits order way.path way.part
    (subst (λ (n : ℕ). IsEntered old b1 b2 b3 b4 b5 new n moved leaf (count_of old + 1) order branch) (sym way.top) entered)
    c.requires.slab r way.whole way.leads found.stops found.shares c.requires.new c.requires.can_rest fits low in
    record {
      slab = inserted-slab old new order done;
      orders = inserted-orders old new order done;
      bump = omega (
        arith,
        bump_entered old b1 b2 b3 b4 b5 new place moved leaf (count_of old + 1) order branch entered,
        c.take_node-leaf.ensures.bump,
        c.take_node-leaf.ensures.freed,
        c.take_node-moved.ensures.bump,
        c.take_node-moved.ensures.freed,
      );
      freed = omega (
        arith,
        free_entered old b1 b2 b3 b4 b5 new place moved leaf (count_of old + 1) order branch entered,
        c.take_node-leaf.ensures.freed,
        c.take_node-moved.ensures.freed,
      );
      three = record {
        first = moved;
        second = leaf;
        third = place;
        first_within = omega (arith, used-below b2 (leaf ∷ moved ∷ used) moved entered.shared (omega (arith, times-some moved used)), two_taken);
        second_within = omega (arith, used-below b2 (leaf ∷ moved ∷ used) leaf entered.shared (times-some leaf (moved ∷ used)), two_taken);
        third_within = way-below old order.id place r way;
        changes = λ at in_header at_moved at_leaf at_place.
            (ChangesHeader-by b5 new LEAF_COUNT _ c.put_u64.ensures.bytes (lit≤ tt) (lit≤ tt)).places at in_header
            ∙ c.write_inner.ensures.changes.places at at_place ∙ c.write_leaf.ensures.changes.places at at_leaf ∙ c.copy_node.ensures.changes.places at at_moved
            ∙ c.take_node-leaf.ensures.changes.places at in_header ∙ c.take_node-moved.ensures.changes.places at in_header;
      };
    }

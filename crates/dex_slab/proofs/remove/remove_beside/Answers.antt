use Rattle.std.proofs.Common.{rules, ◌≡◌, ◌∷◌, ◌-◌, ℕ, Some, ap, List, subst, sym, ◌∙◌, arith, lit≤}
use Rattle.dex_fields.specs.declared.slab.TheConstants.{BUMP_INDEX, FREE_LIST_LEN, LEAF_COUNT}
use Rattle.dex_fields.specs.Bytes.{with_number}
use Rattle.dex_slab.specs.Nodes.{count_of, root_of}
use Rattle.dex_slab.specs.Path.{top_of}
use Rattle.dex_slab.specs.Slab.{IsShared, free_of}
use Rattle.dex_slab.specs.Tree.{nodes_of}
use Rattle.dex_slab.specs.Walks.{IsFound, tree_at}
use Rattle.dex_slab.proofs.Leaving.{beside, left}
use Rattle.dex_slab.proofs.NodeWrites.{ChangesHeader-by, node_within}
use Rattle.dex_slab.proofs.PoolLaw.{used-below}
use Rattle.dex_slab.proofs.TakenOff.{IsTaken, parent_used, removed-orders, removed-slab, shared_copied, shared_found, sibling_found, taken_off}
use Rattle.dex_slab.proofs.Times.{times-some}
use Rattle.dex_slab.proofs.WalkLaw.{rooted}
use Rattle.dex_slab.proofs.Written.{written-count}
use Rattle.dex_slab.proofs.remove.remove_beside.Goals as goal

pub sibling_of-sibling-requires : goal.sibling_of-sibling-requires
sibling_of-sibling-requires c =
    let old = c.args.bytes.now in
    let r = rooted old c.requires.slab c.requires.some in
    let f = c.requires.found.1 in
    node_within old c.args.parent
    (used-below old (top_of (beside f.path) ∷ c.args.leaf ∷ nodes_of (left f.path)) c.args.parent (shared_found old r c.requires.found.0 c.args.leaf c.args.parent f)
    (omega (arith, parent_used old r c.requires.found.0 c.args.leaf c.args.parent f)))

pub copy_node-requires-clause-from : goal.copy_node-requires-clause-from
copy_node-requires-clause-from c =
    let old = c.args.bytes.now in
    let r = rooted old c.requires.slab c.requires.some in
    let f = c.requires.found.1 in
    let is : c.sibling_of-sibling.result ≡ top_of (beside f.path) =
    c.sibling_of-sibling.ensures ∙ sibling_found old r c.requires.found.0 c.args.leaf c.args.parent f in
    node_within old c.sibling_of-sibling.result
    (omega (
      arith,
      is,
      used-below old (top_of (beside f.path) ∷ c.args.leaf ∷ nodes_of (left f.path)) (top_of (beside f.path))
          (shared_found old r c.requires.found.0 c.args.leaf c.args.parent f) (times-some (top_of (beside f.path)) (c.args.leaf ∷ nodes_of (left f.path))),
    ))

pub copy_node-requires-clause-to : goal.copy_node-requires-clause-to
copy_node-requires-clause-to c =
    let old = c.args.bytes.now in
    let r = rooted old c.requires.slab c.requires.some in
    let f = c.requires.found.1 in
    node_within old c.args.parent
    (used-below old (top_of (beside f.path) ∷ c.args.leaf ∷ nodes_of (left f.path)) c.args.parent (shared_found old r c.requires.found.0 c.args.leaf c.args.parent f)
    (omega (arith, parent_used old r c.requires.found.0 c.args.leaf c.args.parent f)))

pub free_node-requires : goal.free_node-requires
free_node-requires c =
    let old = c.args.bytes.now in
    let b1 = c.copy_node.new.bytes in
    let r = rooted old c.requires.slab c.requires.some in
    let f = c.requires.found.1 in
    let is : c.sibling_of-sibling.result ≡ top_of (beside f.path) =
    c.sibling_of-sibling.ensures ∙ sibling_found old r c.requires.found.0 c.args.leaf c.args.parent f in
    let used : List ℕ = c.args.leaf ∷ nodes_of (left f.path) in
    record {
      used = used;
      shared = subst (λ (n : ℕ). IsShared b1 (n ∷ used) (free_of b1)) (sym is)
          (shared_copied old b1 b1 b1 b1 r c.requires.slab c.requires.found.0 c.args.leaf c.args.parent f c.copy_node.ensures.changes (search rules));
      few = omega (arith, c.requires.slab.size.few);
    }

pub free_node-requires-2 : goal.free_node-requires-2
free_node-requires-2 c =
    let old = c.args.bytes.now in
    let b1 = c.copy_node.new.bytes in
    let r = rooted old c.requires.slab c.requires.some in
    let f = c.requires.found.1 in
    let is : c.sibling_of-sibling.result ≡ top_of (beside f.path) =
    c.sibling_of-sibling.ensures ∙ sibling_found old r c.requires.found.0 c.args.leaf c.args.parent f in
    let used : List ℕ = c.args.leaf ∷ nodes_of (left f.path) in
    record {
      used = nodes_of (left f.path);
      shared = c.free_node.ensures.shared used (subst (λ (n : ℕ). IsShared b1 (n ∷ used) (free_of b1)) (sym is)
          (shared_copied old b1 b1 b1 b1 r c.requires.slab c.requires.found.0 c.args.leaf c.args.parent f c.copy_node.ensures.changes (search rules)));
      few = omega (arith, c.requires.slab.size.few);
    }

pub overflow_sub-count : goal.overflow_sub-count
overflow_sub-count c =
    let count : c.get_u64-count.result ≡ count_of c.args.bytes.now =
    c.get_u64-count.ensures ∙ c.free_node-2.ensures.count ∙ c.free_node.ensures.count ∙ c.copy_node.ensures.changes.header_numbers LEAF_COUNT (lit≤ tt) in
    omega (arith, c.requires.some)

pub returns : goal.returns
returns c =
    let old = c.args.bytes.now in
    let b1 = c.copy_node.new.bytes in
    let b2 = c.free_node.new.bytes in
    let b3 = c.free_node-2.new.bytes in
    let new = c.put_u64.new.bytes in
    let parent = c.args.parent in
    let leaf = c.args.leaf in
    let sibling = c.sibling_of-sibling.result in
    let r = rooted old c.requires.slab c.requires.some in
    let count : c.get_u64-count.result ≡ count_of old =
    c.get_u64-count.ensures ∙ c.free_node-2.ensures.count ∙ c.free_node.ensures.count ∙ c.copy_node.ensures.changes.header_numbers LEAF_COUNT (lit≤ tt) in
    let taken : IsTaken old b1 b2 b3 new parent leaf sibling (count_of old - 1) = record {
      copied = c.copy_node.ensures.copied;
      copy_changes = c.copy_node.ensures.changes;
      first_shared = c.free_node.ensures.shared;
      first_nodes = c.free_node.ensures.nodes;
      first_root = c.free_node.ensures.root;
      second_shared = c.free_node-2.ensures.shared;
      second_nodes = c.free_node-2.ensures.nodes;
      second_root = c.free_node-2.ensures.root;
      counted = c.put_u64.ensures.bytes ∙ ap (λ (n : ℕ). with_number b3 LEAF_COUNT (n - 1)) count;
      counts = c.put_u64.ensures.given ∙ ap (λ (n : ℕ). n - 1) count;
      long_copied = search rules;
      long = search rules;
      length_old = search rules;
    } in
    let removed = λ (id : ℕ) (f : IsFound (tree_at old (root_of old)) id (Some parent) leaf).
    taken_off old b1 b2 b3 new r c.requires.slab id leaf parent f
    (subst (λ (n : ℕ). IsTaken old b1 b2 b3 new parent leaf n (count_of old - 1))
    (c.sibling_of-sibling.ensures ∙ sibling_found old r id leaf parent f) taken) in
    let written = written-count b3 new (c.get_u64-count.result - 1) c.put_u64.ensures.bytes in
    let f = c.requires.found.1 in
    let used : List ℕ = top_of (beside f.path) ∷ leaf ∷ nodes_of (left f.path) in
    let shared = shared_found old r c.requires.found.0 leaf parent f in
    let sibling_is : sibling ≡ top_of (beside f.path) = c.sibling_of-sibling.ensures ∙ sibling_found old r c.requires.found.0 leaf parent f in
    record {
      slab = removed-slab old new c.requires.found.0 (removed c.requires.found.0 c.requires.found.1);
      orders = λ id f. removed-orders old new id (removed id f);
      bump = written.bump ∙ c.free_node-2.ensures.bump ∙ c.free_node.ensures.bump ∙ c.copy_node.ensures.changes.header_numbers BUMP_INDEX (lit≤ tt);
      freed = omega (arith, written.len, c.free_node-2.ensures.freed, c.free_node.ensures.freed, c.copy_node.ensures.changes.header_numbers FREE_LIST_LEN (lit≤ tt));
      three = record {
        first = parent;
        second = sibling;
        third = leaf;
        first_within = used-below old used parent shared (omega (arith, parent_used old r c.requires.found.0 leaf parent f));
        second_within = omega (arith, sibling_is, used-below old used (top_of (beside f.path)) shared (times-some (top_of (beside f.path)) (leaf ∷ nodes_of (left f.path))));
        third_within = used-below old used leaf shared (omega (arith, times-some leaf (nodes_of (left f.path))));
        changes = λ at in_header at_parent at_sibling at_leaf.
            (ChangesHeader-by b3 new LEAF_COUNT _ c.put_u64.ensures.bytes (lit≤ tt) (lit≤ tt)).places at in_header
            ∙ c.free_node-2.ensures.places at in_header at_leaf ∙ c.free_node.ensures.places at in_header at_sibling ∙ c.copy_node.ensures.changes.places at at_parent;
      };
    }

use Rattle.std.proofs.Common.{rules, ◌≡◌, ◌∷◌, [], Some, ◌∙◌, arith, length, lit≤}
use Rattle.dex_fields.specs.declared.slab.TheConstants.{LEAF_COUNT, ROOT_NODE}
use Rattle.dex_slab.specs.Tree.{Leaf}
use Rattle.dex_slab.proofs.FirstLaw.{made-first, orders-first, shared-none, spare-none, written-first}
use Rattle.dex_slab.proofs.NodeWrites.{ChangesHeader-by, node_within}
use Rattle.dex_slab.proofs.PoolLaw.{used-below}
use Rattle.dex_slab.proofs.Standing.{IsSlab-from}
use Rattle.dex_slab.proofs.Times.{times-some}
use Rattle.dex_slab.proofs.insert.insert_first.Goals as goal

pub take_node-leaf-requires : goal.take_node-leaf-requires
take_node-leaf-requires c = spare-none c.args.bytes.now c.requires.slab c.requires.empty

pub write_leaf-requires : goal.write_leaf-requires
write_leaf-requires c =
    let old = c.args.bytes.now in
    let shared = c.take_node-leaf.ensures.shared [] (shared-none old c.requires.slab c.requires.empty) (omega (arith, c.requires.slab.size.some)) in
    node_within c.take_node-leaf.new.bytes c.take_node-leaf.result
    (used-below c.take_node-leaf.new.bytes (c.take_node-leaf.result ∷ []) c.take_node-leaf.result shared (times-some c.take_node-leaf.result []))

pub returns-clause-slab : goal.returns-clause-slab
returns-clause-slab c =
    let old = c.args.bytes.now in
    let leaf = c.take_node-leaf.result in
    let shared = c.take_node-leaf.ensures.shared [] (shared-none old c.requires.slab c.requires.empty) (omega (arith, c.requires.slab.size.some)) in
    IsSlab-from c.put_u64.new.bytes (Some (Leaf leaf c.args.order))
    (made-first c.take_node-leaf.new.bytes c.write_leaf.new.bytes c.put_u32.new.bytes c.put_u64.new.bytes leaf
    c.write_leaf.ensures.changes c.put_u32.ensures.bytes c.put_u64.ensures.bytes c.args.order (search rules) shared c.write_leaf.ensures.leaf
    c.put_u32.ensures.given c.put_u64.ensures.given (search rules) c.requires.can_rest)

pub returns-clause-orders : goal.returns-clause-orders
returns-clause-orders c =
    let old = c.args.bytes.now in
    let leaf = c.take_node-leaf.result in
    let shared = c.take_node-leaf.ensures.shared [] (shared-none old c.requires.slab c.requires.empty) (omega (arith, c.requires.slab.size.some)) in
    orders-first old c.put_u64.new.bytes leaf c.args.order c.requires.empty
    (made-first c.take_node-leaf.new.bytes c.write_leaf.new.bytes c.put_u32.new.bytes c.put_u64.new.bytes leaf
    c.write_leaf.ensures.changes c.put_u32.ensures.bytes c.put_u64.ensures.bytes c.args.order (search rules) shared c.write_leaf.ensures.leaf
    c.put_u32.ensures.given c.put_u64.ensures.given (search rules) c.requires.can_rest)

pub returns-clause-bump : goal.returns-clause-bump
returns-clause-bump c =
    (written-first c.take_node-leaf.new.bytes c.write_leaf.new.bytes c.put_u32.new.bytes c.put_u64.new.bytes c.take_node-leaf.result
    c.write_leaf.ensures.changes c.put_u32.ensures.bytes c.put_u64.ensures.bytes).bump ∙ c.take_node-leaf.ensures.bump

pub returns-clause-freed : goal.returns-clause-freed
returns-clause-freed c =
    (written-first c.take_node-leaf.new.bytes c.write_leaf.new.bytes c.put_u32.new.bytes c.put_u64.new.bytes c.take_node-leaf.result
    c.write_leaf.ensures.changes c.put_u32.ensures.bytes c.put_u64.ensures.bytes).len ∙ c.take_node-leaf.ensures.freed

pub returns-clause-three : goal.returns-clause-three
returns-clause-three c =
    let old = c.args.bytes.now in
    let leaf = c.take_node-leaf.result in
    let taken = c.take_node-leaf.new.bytes in
    let root = c.put_u32.new.bytes in
    let shared = c.take_node-leaf.ensures.shared [] (shared-none old c.requires.slab c.requires.empty) (omega (arith, c.requires.slab.size.some)) in
    let same : length taken ≡ length old = search rules in
    record {
      first = leaf;
      second = 0;
      third = 0;
      first_within = omega (arith, used-below taken (leaf ∷ []) leaf shared (times-some leaf []), same);
      second_within = c.requires.slab.size.some;
      third_within = c.requires.slab.size.some;
      changes = λ at in_header at_leaf at_0 at_1.
          (ChangesHeader-by root c.put_u64.new.bytes LEAF_COUNT _ c.put_u64.ensures.bytes (lit≤ tt) (lit≤ tt)).places at in_header
          ∙ (ChangesHeader-by c.write_leaf.new.bytes root ROOT_NODE _ c.put_u32.ensures.bytes (lit≤ tt) (lit≤ tt)).places at in_header
          ∙ c.write_leaf.ensures.changes.places at at_leaf ∙ c.take_node-leaf.ensures.changes.places at in_header;
    }

use Rattle.std.proofs.Common.{rules, ◌<◌, ◌^◌, refl, sym, ap, ◌∙◌, arith}
use Rattle.dex_fields.specs.Bytes.{AreBytes}
use Rattle.dex_slab.specs.Nodes.{root_of}
use Rattle.dex_slab.specs.Path.{Root, shared_bits}
use Rattle.dex_slab.specs.Walks.{tree_at}
use Rattle.dex_slab.proofs.NodeWrites.{node_within}
use Rattle.dex_slab.proofs.WalkLaw.{rooted, way-below, way-key, way-prefix, way-step, way-stops}
use Rattle.dex_slab.proofs.walks.insertion_point.Goals as goal

pub loop-child-init : goal.loop-child-init
loop-child-init c =
    let r = rooted c.args.bytes.now c.requires.slab c.requires.some in
    record { path = Root; part = tree_at c.args.bytes.now (root_of c.args.bytes.now); whole = refl; top = r.held.root ∙ sym c.get_u32-node.ensures; leads = tt }

pub next_towards-requires-clause-within : goal.next_towards-requires-clause-within
next_towards-requires-clause-within c =
    let r = rooted c.args.bytes.now c.requires.slab c.requires.some in
    node_within c.args.bytes.now c.loop-child.node (way-below c.args.bytes.now c.args.id c.loop-child.node r c.loop-child.invariant)

pub next_towards-requires-clause-prefix : goal.next_towards-requires-clause-prefix
next_towards-requires-clause-prefix c =
    let r = rooted c.args.bytes.now c.requires.slab c.requires.some in
    way-prefix c.args.bytes.now r c.args.id c.loop-child.node c.loop-child.invariant

pub key_of-requires : goal.key_of-requires
key_of-requires c =
    let r = rooted c.args.bytes.now c.requires.slab c.requires.some in
    way-below c.args.bytes.now c.args.id c.loop-child.node r c.loop-child.invariant

pub loop-child-smaller : goal.loop-child-smaller
loop-child-smaller c =
    let r = rooted c.args.bytes.now c.requires.slab c.requires.some in
    let are : AreBytes c.args.bytes.now = (λ k. omega (arith, c.type_inv.bytes k)) in
    let fits : c.args.id < 2 ^ 128 = search rules in
    (way-step c.args.bytes.now r c.args.id c.loop-child.node c.in-Some.child are fits c.loop-child.invariant (sym c.in-Some.ensures)).smaller

pub loop-child-preserved : goal.loop-child-preserved
loop-child-preserved c =
    let r = rooted c.args.bytes.now c.requires.slab c.requires.some in
    let are : AreBytes c.args.bytes.now = (λ k. omega (arith, c.type_inv.bytes k)) in
    let fits : c.args.id < 2 ^ 128 = search rules in
    (way-step c.args.bytes.now r c.args.id c.loop-child.node c.in-Some.child are fits c.loop-child.invariant (sym c.in-Some.ensures)).way

pub returns-clause-point : goal.returns-clause-point
returns-clause-point c =
    let bytes = c.args.bytes.now in
    let r = rooted bytes c.requires.slab c.requires.some in
    let way = c.loop-child.invariant in
    record {
      way = way;
      stops = way-stops bytes r c.args.id c.loop-child.node way (sym c.next_towards.ensures ∙ c.in_default.is);
      shares = c.shared_bits.ensures ∙ ap (λ n. shared_bits n c.args.id) (c.key_of.ensures ∙ way-key bytes r c.args.id c.loop-child.node way);
    }

pub returns-clause-key : goal.returns-clause-key
returns-clause-key c = omega (arith, c.key_of.ensures)

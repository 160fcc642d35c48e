use Rattle.std.proofs.Common.{ℕ, ◌<◌, Option, IfSome, refl, sym, subst, ◌∙◌}
use Rattle.dex_slab.specs.declared.nodes.Branch.{Branch}
use Rattle.dex_slab.specs.Nodes.{root_of}
use Rattle.dex_slab.specs.Path.{Root}
use Rattle.dex_slab.specs.Walks.{tree_at}
use Rattle.dex_slab.proofs.NodeWrites.{node_within}
use Rattle.dex_slab.proofs.SeekLaw.{IsSearchStep, seek-end, seek-step, sought-way}
use Rattle.dex_slab.proofs.WalkLaw.{rooted, way-below, way-prefix}
use Rattle.dex_slab.proofs.walks.find_leaf.Goals as goal

pub loop-branch-init : goal.loop-branch-init
loop-branch-init c =
    let bytes = c.args.bytes.now in
    let r = rooted bytes c.requires.slab c.requires.some in
    record {
      path = Root;
      part = tree_at bytes (root_of bytes);
      whole = refl;
      top = r.held.root ∙ sym c.get_u32-node.ensures;
      leads = tt;
      above = refl;
      rests = c.requires.rests;
    }

pub branch_of-requires : goal.branch_of-requires
branch_of-requires c =
    let bytes = c.args.bytes.now in
    let way = sought-way (tree_at bytes (root_of bytes)) c.args.id c.loop-branch.parent c.loop-branch.node c.loop-branch.invariant in
    node_within bytes c.loop-branch.node (way-below bytes c.args.id c.loop-branch.node (rooted bytes c.requires.slab c.requires.some) way)

pub child_towards-node-requires : goal.child_towards-node-requires
child_towards-node-requires c =
    let bytes = c.args.bytes.now in
    let way = sought-way (tree_at bytes (root_of bytes)) c.args.id c.loop-branch.parent c.loop-branch.node c.loop-branch.invariant in
    subst (λ (o : Option Branch). IfSome o (λ (b : Branch). b.prefix < 128)) (sym c.in-Some.ensures)
    (way-prefix bytes (rooted bytes c.requires.slab c.requires.some) c.args.id c.loop-branch.node way)

pub loop-branch-smaller : goal.loop-branch-smaller
loop-branch-smaller c =
    let bytes = c.args.bytes.now in
    let node = c.loop-branch.node in
    let r = rooted bytes c.requires.slab c.requires.some in
    (subst (λ (n : ℕ). IsSearchStep bytes c.args.id node n) (sym c.child_towards-node.ensures)
    (seek-step bytes r c.args.id c.loop-branch.parent node c.in-Some.branch c.loop-branch.invariant (sym c.in-Some.ensures))).smaller

pub loop-branch-preserved : goal.loop-branch-preserved
loop-branch-preserved c =
    let bytes = c.args.bytes.now in
    let node = c.loop-branch.node in
    let r = rooted bytes c.requires.slab c.requires.some in
    (subst (λ (n : ℕ). IsSearchStep bytes c.args.id node n) (sym c.child_towards-node.ensures)
    (seek-step bytes r c.args.id c.loop-branch.parent node c.in-Some.branch c.loop-branch.invariant (sym c.in-Some.ensures))).sought

pub returns : goal.returns
returns c =
    let bytes = c.args.bytes.now in
    seek-end bytes (rooted bytes c.requires.slab c.requires.some) c.args.id c.loop-branch.parent c.loop-branch.node c.loop-branch.invariant
    (sym c.branch_of.ensures ∙ c.in_default.is)

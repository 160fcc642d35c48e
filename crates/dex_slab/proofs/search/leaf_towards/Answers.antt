use Rattle.std.proofs.Common.{◌∙◌, ap, sym}
use Rattle.dex_types.specs.declared.terms.Side.TheVariants.{Bid}
use Rattle.dex_types.specs.declared.terms.Side.{Side}
use Rattle.dex_types.specs.Cancel.{order_with}
use Rattle.dex_slab.specs.Below.{child_beyond}
use Rattle.dex_slab.specs.Walks.{tree_at, child_towards}
use Rattle.dex_slab.specs.Tree.{orders_of}
use Rattle.dex_slab.proofs.Descents.{IsStep, step}
use Rattle.dex_slab.proofs.Parts.{IsBranch, branch-below, inside-below, leaf-below, prefix-below}
use Rattle.dex_slab.proofs.search.leaf_towards.Goals as goal

-- what is below a node that is not a leaf
on_branch : (c : goal.After-child_towards-leaf) → IsBranch c.args.bytes.now (tree_at c.args.bytes.now c.down.leaf) c.in-Some.branch
on_branch c = branch-below c.args.bytes.now c.down.leaf c.in-Some.branch c.down.invariant.part (sym c.branch_of.ensures ∙ c.in-Some.is)

-- and the step to its child
on_step : (c : goal.After-child_towards-leaf) (side : Side)
    → IsStep c.args.bytes.now c.args.id side (tree_at c.args.bytes.now c.down.leaf) (child_towards c.args.id c.in-Some.branch) (child_beyond side c.args.id c.in-Some.branch)
on_step c side = step c.args.bytes.now c.args.id side (tree_at c.args.bytes.now c.down.leaf) c.in-Some.branch c.down.invariant.part (on_branch c)

pub branch_of-requires : goal.branch_of-requires
branch_of-requires c = inside-below c.args.bytes.now c.down.leaf c.down.invariant.part

pub returns-clause-inside : goal.returns-clause-inside
returns-clause-inside c = inside-below c.args.bytes.now c.down.leaf c.down.invariant.part

pub returns-clause-order : goal.returns-clause-order
returns-clause-order c side =
    c.down.invariant.found side
    ∙ ap (λ t. order_with c.args.id (orders_of side t))
    (leaf-below c.args.bytes.now c.down.leaf c.down.invariant.part (sym c.branch_of.ensures ∙ c.in_default.is))

pub down-preserved : goal.down-preserved
down-preserved c =
    rw c.child_towards-leaf.ensures (record { part = (on_step c Bid).part; found = λ side. c.down.invariant.found side ∙ (on_step c side).found })

pub down-smaller : goal.down-smaller
down-smaller c = rw c.child_towards-leaf.ensures (on_step c Bid).fewer

pub child_towards-leaf-requires : goal.child_towards-leaf-requires
child_towards-leaf-requires c =
    prefix-below c.args.bytes.now c.down.leaf c.in-Some.branch c.down.invariant.part (sym c.branch_of.ensures ∙ c.in-Some.is)

use Rattle.std.proofs.Common.{◌∙◌, ap, sym}
use Rattle.dex_types.specs.BookSide.{best_of}
use Rattle.dex_slab.specs.Walks.{tree_at}
use Rattle.dex_slab.specs.Tree.{orders_of}
use Rattle.dex_slab.proofs.Descents.{best-branch}
use Rattle.dex_slab.proofs.Parts.{IsBranch, branch-below, inside-below, leaf-below, nodes-near, part-near}
use Rattle.dex_slab.proofs.search.first_leaf.Goals as goal

-- what is below a node that is not a leaf
on_branch : (c : goal.After-near_child-leaf) → IsBranch c.args.bytes.now (tree_at c.args.bytes.now c.down.leaf) c.in-Some.branch
on_branch c = branch-below c.args.bytes.now c.down.leaf c.in-Some.branch c.down.invariant.part (sym c.branch_of.ensures ∙ c.in-Some.is)

pub branch_of-requires : goal.branch_of-requires
branch_of-requires c = inside-below c.args.bytes.now c.down.leaf c.down.invariant.part

pub returns-clause-inside : goal.returns-clause-inside
returns-clause-inside c = inside-below c.args.bytes.now c.down.leaf c.down.invariant.part

pub returns-clause-order : goal.returns-clause-order
returns-clause-order c =
    c.down.invariant.first
    ∙ ap (λ t. best_of (orders_of c.args.side t)) (leaf-below c.args.bytes.now c.down.leaf c.down.invariant.part (sym c.branch_of.ensures ∙ c.in_default.is))

pub down-preserved : goal.down-preserved
down-preserved c =
    rw c.near_child-leaf.ensures (record {
      part = part-near c.args.bytes.now c.args.side _ c.in-Some.branch (on_branch c);
      first = c.down.invariant.first ∙ best-branch c.args.bytes.now c.args.side _ c.in-Some.branch (on_branch c);
    })

pub down-smaller : goal.down-smaller
down-smaller c = rw c.near_child-leaf.ensures (nodes-near c.args.bytes.now c.args.side _ c.in-Some.branch (on_branch c))

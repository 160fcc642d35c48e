use Rattle.std.proofs.Common.{◌∙◌, ap, sym, subst}
use Rattle.std.specs.Option.{IsSome, option_or}
use Rattle.dex_types.specs.BookSide.{order_after}
use Rattle.dex_slab.specs.Below.{child_beyond, first_below}
use Rattle.dex_slab.specs.Walks.{tree_at, child_towards}
use Rattle.dex_slab.specs.Nodes.{order_of}
use Rattle.dex_slab.specs.Tree.{orders_of}
use Rattle.dex_slab.proofs.Descents.{IsStep, after-alone, behind-step, part-or, step}
use Rattle.dex_slab.proofs.Parts.{branch-below, inside-below, leaf-below, prefix-below}
use Rattle.dex_slab.proofs.behind.part_behind.Goals as goal

-- the step to the child
on_step : (c : goal.After-child_towards-leaf)
    → IsStep c.args.bytes.now c.args.id c.args.side (tree_at c.args.bytes.now c.down.leaf) (child_towards c.args.id c.in-Some.branch)
    (child_beyond c.args.side c.args.id c.in-Some.branch)
on_step c =
    step c.args.bytes.now c.args.id c.args.side (tree_at c.args.bytes.now c.down.leaf) c.in-Some.branch c.down.invariant.part
    (branch-below c.args.bytes.now c.down.leaf c.in-Some.branch c.down.invariant.part (sym c.branch_of.ensures ∙ c.in-Some.is))

pub branch_of-requires : goal.branch_of-requires
branch_of-requires c = inside-below c.args.bytes.now c.down.leaf c.down.invariant.part

pub child_beyond-requires : goal.child_beyond-requires
child_beyond-requires c =
    prefix-below c.args.bytes.now c.down.leaf c.in-Some.branch c.down.invariant.part (sym c.branch_of.ensures ∙ c.in-Some.is)

pub child_towards-leaf-requires : goal.child_towards-leaf-requires
child_towards-leaf-requires c =
    prefix-below c.args.bytes.now c.down.leaf c.in-Some.branch c.down.invariant.part (sym c.branch_of.ensures ∙ c.in-Some.is)

pub down-preserved : goal.down-preserved
down-preserved c =
    let s = on_step c in
    let next = c.or-next.ensures ∙ ap (λ o. option_or o c.down.next) c.child_beyond.ensures in
    rw (c.child_towards-leaf.ensures, next) (record {
      part = s.part;
      rests = subst IsSome s.found c.down.invariant.rests;
      next_part = part-or c.args.bytes.now _ c.down.next s.beyond_part c.down.invariant.next_part;
      behind = c.down.invariant.behind ∙ behind-step c.args.bytes.now c.args.id c.args.side _ _ _ c.down.next s c.down.invariant.rests;
    })

pub down-smaller : goal.down-smaller
down-smaller c = rw c.child_towards-leaf.ensures (on_step c).fewer

pub returns-clause-order : goal.returns-clause-order
returns-clause-order c =
    let leaf = leaf-below c.args.bytes.now c.down.leaf c.down.invariant.part (sym c.branch_of.ensures ∙ c.in_default.is) in
    c.down.invariant.behind
    ∙ ap (λ t. option_or (order_after c.args.id (orders_of c.args.side t)) (first_below c.args.bytes.now c.args.side c.down.next)) leaf
    ∙ ap (λ o. option_or o (first_below c.args.bytes.now c.args.side c.down.next)) (after-alone c.args.id (order_of c.args.bytes.now c.down.leaf))

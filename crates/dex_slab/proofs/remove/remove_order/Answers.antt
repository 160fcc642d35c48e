use Rattle.std.proofs.Common.{ℕ, Option, Some, ap, subst, sym, ◌∙◌, arith}
use Rattle.dex_slab.specs.Nodes.{root_of}
use Rattle.dex_slab.specs.Walks.{IsFound, tree_at}
use Rattle.dex_slab.proofs.FoundLaw.{count-more, count-only, given-one, given-two, leaf-below, order-listed, order-read, rests-in, rests-some, without-only}
use Rattle.dex_slab.proofs.NodeWrites.{node_within}
use Rattle.dex_slab.proofs.WalkLaw.{rooted}
use Rattle.dex_slab.proofs.remove.remove_order.Goals as goal

pub find_leaf-found-requires-clause-some : goal.find_leaf-found-requires-clause-some
find_leaf-found-requires-clause-some c = rests-some c.args.bytes.now c.args.id c.requires.rests

pub find_leaf-found-requires-clause-rests : goal.find_leaf-found-requires-clause-rests
find_leaf-found-requires-clause-rests c =
    let old = c.args.bytes.now in
    rests-in old c.args.id (rooted old c.requires.slab (rests-some old c.args.id c.requires.rests)) c.requires.rests

pub order_of-order-requires : goal.order_of-order-requires
order_of-order-requires c =
    let old = c.args.bytes.now in
    let r = rooted old c.requires.slab (rests-some old c.args.id c.requires.rests) in
    let found = c.find_leaf-found.result in
    node_within old found.leaf (leaf-below old r c.args.id found.leaf found.parent c.find_leaf-found.ensures)

pub remove_only-requires-clause-only : goal.remove_only-requires-clause-only
remove_only-requires-clause-only c =
    let old = c.args.bytes.now in
    let r = rooted old c.requires.slab (rests-some old c.args.id c.requires.rests) in
    let found = c.find_leaf-found.result in
    count-only old c.requires.slab r c.args.id found.leaf
    (subst (λ (o : Option ℕ). IsFound (tree_at old (root_of old)) c.args.id o found.leaf) c.in-None.is c.find_leaf-found.ensures)

pub remove_beside-requires-clause-some : goal.remove_beside-requires-clause-some
remove_beside-requires-clause-some c = rests-some c.args.bytes.now c.args.id c.requires.rests

pub returns-in-None-clause-order : goal.returns-in-None-clause-order
returns-in-None-clause-order c side =
    let old = c.args.bytes.now in
    let r = rooted old c.requires.slab (rests-some old c.args.id c.requires.rests) in
    let found = c.find_leaf-found.result in
    order-listed old r c.args.id found.leaf found.parent c.find_leaf-found.ensures side
    ∙ sym (ap Some (c.order_of-order.ensures ∙ order-read old r c.args.id found.leaf found.parent c.find_leaf-found.ensures))

pub returns-in-None-clause-orders : goal.returns-in-None-clause-orders
returns-in-None-clause-orders c side =
    let old = c.args.bytes.now in
    let r = rooted old c.requires.slab (rests-some old c.args.id c.requires.rests) in
    let found = c.find_leaf-found.result in
    c.remove_only.ensures.orders side
    ∙ sym (without-only old c.requires.slab r c.args.id found.leaf
    (subst (λ (o : Option ℕ). IsFound (tree_at old (root_of old)) c.args.id o found.leaf) c.in-None.is c.find_leaf-found.ensures) side)

pub returns-in-None-clause-freed : goal.returns-in-None-clause-freed
returns-in-None-clause-freed c =
    let old = c.args.bytes.now in
    let r = rooted old c.requires.slab (rests-some old c.args.id c.requires.rests) in
    let found = c.find_leaf-found.result in
    let one = count-only old c.requires.slab r c.args.id found.leaf
    (subst (λ (o : Option ℕ). IsFound (tree_at old (root_of old)) c.args.id o found.leaf) c.in-None.is c.find_leaf-found.ensures) in
    omega (arith, c.remove_only.ensures.freed, given-one _ one)

pub returns-in-Some-clause-order : goal.returns-in-Some-clause-order
returns-in-Some-clause-order c side =
    let old = c.args.bytes.now in
    let r = rooted old c.requires.slab (rests-some old c.args.id c.requires.rests) in
    let found = c.find_leaf-found.result in
    order-listed old r c.args.id found.leaf found.parent c.find_leaf-found.ensures side
    ∙ sym (ap Some (c.order_of-order.ensures ∙ order-read old r c.args.id found.leaf found.parent c.find_leaf-found.ensures))

pub returns-in-Some-clause-freed : goal.returns-in-Some-clause-freed
returns-in-Some-clause-freed c =
    let old = c.args.bytes.now in
    let r = rooted old c.requires.slab (rests-some old c.args.id c.requires.rests) in
    let found = c.find_leaf-found.result in
    let more = count-more old c.requires.slab r c.args.id found.leaf c.in-Some.parent
    (subst (λ (o : Option ℕ). IsFound (tree_at old (root_of old)) c.args.id o found.leaf) c.in-Some.is c.find_leaf-found.ensures) in
    omega (arith, c.remove_beside.ensures.freed, given-two _ more)

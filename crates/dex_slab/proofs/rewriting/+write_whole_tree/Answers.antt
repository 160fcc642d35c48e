use Rattle.std.proofs.Common.{sym, ◌∙◌, arith}
use Rattle.dex_slab.specs.SamePlace.{frame_chains}
use Rattle.dex_slab.proofs.BestLaw.{best-back, best-fewer, best-is, best-new, best-nodes, best-rests}
use Rattle.dex_slab.proofs.Standing.{count-room}
use Rattle.dex_slab.proofs.rewriting.+write_whole_tree.Goals as goal

pub remove_order-requires-clause-rests : goal.remove_order-requires-clause-rests
remove_order-requires-clause-rests t c =
    let old = c.args.bytes.now in
    let order = c.in-Some.order in
    best-rests c.args.side old order (best-is c.args.side old order c.requires (sym c.best.ensures ∙ c.in-Some.is))

pub write_whole_tree-requires : goal.write_whole_tree-requires
write_whole_tree-requires t c =
    let old = c.args.bytes.now in
    let order = c.in-Some.order in
    let best = best-is c.args.side old order c.requires (sym c.best.ensures ∙ c.in-Some.is) in
    let fewer = best-fewer c.args.side old c.remove_order.new.bytes order best (c.remove_order.ensures.orders c.args.side) c.requires c.remove_order.ensures.slab in
    (omega arith, c.remove_order.ensures.slab)

pub insert_order-requires-clause-new : goal.insert_order-requires-clause-new
insert_order-requires-clause-new t c =
    let old = c.args.bytes.now in
    let order = c.in-Some.order in
    let best = best-is c.args.side old order c.requires (sym c.best.ensures ∙ c.in-Some.is) in
    best-new c.args.side old c.write_whole_tree.new.bytes order best (c.write_whole_tree.ensures.orders ∙ c.remove_order.ensures.orders c.args.side)

pub insert_order-requires-clause-can_rest : goal.insert_order-requires-clause-can_rest
insert_order-requires-clause-can_rest t c =
    let best = best-is c.args.side c.args.bytes.now c.in-Some.order c.requires (sym c.best.ensures ∙ c.in-Some.is) in
    best.can_rest

pub insert_order-requires-clause-room : goal.insert_order-requires-clause-room
insert_order-requires-clause-room t c =
    let old = c.args.bytes.now in
    let order = c.in-Some.order in
    let best = best-is c.args.side old order c.requires (sym c.best.ensures ∙ c.in-Some.is) in
    let without = c.write_whole_tree.ensures.orders ∙ c.remove_order.ensures.orders c.args.side in
    omega (arith, best-fewer c.args.side old c.write_whole_tree.new.bytes order best without c.requires c.write_whole_tree.ensures.slab, count-room old c.requires)

pub returns-in-Some-clause-orders : goal.returns-in-Some-clause-orders
returns-in-Some-clause-orders t c =
    let old = c.args.bytes.now in
    let order = c.in-Some.order in
    let best = best-is c.args.side old order c.requires (sym c.best.ensures ∙ c.in-Some.is) in
    let without = c.write_whole_tree.ensures.orders ∙ c.remove_order.ensures.orders c.args.side in
    c.insert_order.ensures.orders c.args.side ∙ best-back c.args.side old c.write_whole_tree.new.bytes order best without

pub returns-in-Some-clause-bump : goal.returns-in-Some-clause-bump
returns-in-Some-clause-bump t c =
    let old = c.args.bytes.now in
    let order = c.in-Some.order in
    let best = best-is c.args.side old order c.requires (sym c.best.ensures ∙ c.in-Some.is) in
    let without = c.write_whole_tree.ensures.orders ∙ c.remove_order.ensures.orders c.args.side in
    omega (
      arith,
      best-nodes c.args.side old c.write_whole_tree.new.bytes order best without c.requires c.write_whole_tree.ensures.slab,
      c.insert_order.ensures.bump,
      c.write_whole_tree.ensures.bump,
      c.write_whole_tree.ensures.freed,
      c.remove_order.ensures.bump,
      c.remove_order.ensures.freed,
    )

pub returns-in-Some-clause-freed : goal.returns-in-Some-clause-freed
returns-in-Some-clause-freed t c =
    let old = c.args.bytes.now in
    let order = c.in-Some.order in
    let best = best-is c.args.side old order c.requires (sym c.best.ensures ∙ c.in-Some.is) in
    let without = c.write_whole_tree.ensures.orders ∙ c.remove_order.ensures.orders c.args.side in
    omega (
      arith,
      best-nodes c.args.side old c.write_whole_tree.new.bytes order best without c.requires c.write_whole_tree.ensures.slab,
      c.insert_order.ensures.freed,
      c.write_whole_tree.ensures.freed,
      c.remove_order.ensures.freed,
    )

pub returns-in-Some-clause-frame : goal.returns-in-Some-clause-frame
returns-in-Some-clause-frame t c =
    let first = c.args.bytes.now in
    let second = c.remove_order.new.bytes in
    let third = c.write_whole_tree.new.bytes in
    let fourth = c.insert_order.new.bytes in
    frame_chains first third fourth (frame_chains first second third c.remove_order.ensures.frame c.write_whole_tree.ensures.frame) c.insert_order.ensures.frame

use Rattle.std.proofs.Common.{rules, arith}
use Rattle.dex_slab.specs.Slab.{tree_of}
use Rattle.dex_slab.proofs.FoundLaw.{new-rests}
use Rattle.dex_slab.proofs.Standing.{count-listed}
use Rattle.dex_slab.proofs.view_writes.SlabViewSideBook.insert.Goals as goal

pub insert_order-requires-clause-new : goal.insert_order-requires-clause-new
insert_order-requires-clause-new c =
    let view = c.args.self.now in
    new-rests view.side c.args.order.id (tree_of view.bytes.now) c.requires.new

pub insert_order-requires-clause-room : goal.insert_order-requires-clause-room
insert_order-requires-clause-room c =
    let view = c.args.self.now in
    omega (arith, c.requires.room, count-listed view.side view.bytes.now c.requires.holds)

pub returns-clause-place : goal.returns-clause-place
returns-clause-place c = (search rules, c.insert_order.ensures.frame)

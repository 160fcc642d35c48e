use Rattle.std.proofs.Common.{rules}
use Rattle.dex_slab.specs.Slab.{tree_of}
use Rattle.dex_slab.proofs.FoundLaw.{RestsOn-from}
use Rattle.dex_slab.proofs.view_writes.SlabViewSideBook.set_lots.Goals as goal

pub set_order_lots-requires-clause-rests : goal.set_order_lots-requires-clause-rests
set_order_lots-requires-clause-rests c =
    let view = c.args.self.now in
    RestsOn-from view.side c.args.id (tree_of view.bytes.now) c.requires.rests

pub returns-clause-place : goal.returns-clause-place
returns-clause-place c = (search rules, c.set_order_lots.ensures.frame)

use Rattle.std.proofs.Common.{rules}
use Rattle.dex_slab.specs.Slab.{tree_of}
use Rattle.dex_slab.proofs.FoundLaw.{RestsOn-from}
use Rattle.dex_slab.proofs.view_writes.SlabViewSideBook.remove.Goals as goal

pub remove_order-requires-clause-rests : goal.remove_order-requires-clause-rests
remove_order-requires-clause-rests c =
    let view = c.args.self.now in
    RestsOn-from view.side c.args.id (tree_of view.bytes.now) c.requires.rests

pub returns-clause-place : goal.returns-clause-place
returns-clause-place c = (search rules, c.remove_order.ensures.frame)

use Rattle.std.proofs.Common.{◌≤◌, Option, subst, arith}
use Rattle.dex_slab.specs.Nodes.{count_of}
use Rattle.dex_slab.specs.Tree.{Tree}
use Rattle.dex_slab.specs.Walks.{RestsOn}
use Rattle.dex_slab.proofs.WalkLaw.{rooted}
use Rattle.dex_slab.proofs.insert.insert_order.Goals as goal

pub insert_beside-requires-clause-new : goal.insert_beside-requires-clause-new
insert_beside-requires-clause-new c =
    let old = c.args.bytes.now in
    let some : 1 ≤ count_of old = omega (arith, c.get_u64.ensures) in
    subst (λ (o : Option Tree). RestsOn c.args.order.id o → ⊥) (rooted old c.requires.slab some).is c.requires.new

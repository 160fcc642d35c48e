use Rattle.std.proofs.Common.{◌≤◌, arith}
use Rattle.dex_slab.specs.Nodes.{count_of}
use Rattle.dex_slab.proofs.Rooted.{root-is}
use Rattle.dex_slab.proofs.Standing.{count-listed}
use Rattle.dex_slab.proofs.slab_ref.SlabRef.root.Goals as goal

pub returns-else-count-eq0 : goal.returns-else-count-eq0
returns-else-count-eq0 c =
    let bytes = c.args.self.now.bytes.now in
    let some : 1 ≤ count_of bytes = omega (arith, c.count.ensures, count-listed c.args.self.now.side bytes c.requires) in
    rw c.get_u32.ensures (root-is bytes c.requires some)

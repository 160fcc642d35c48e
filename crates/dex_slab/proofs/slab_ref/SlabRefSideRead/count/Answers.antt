use Rattle.std.proofs.Common.{sym, ◌∙◌, arith}
use Rattle.dex_slab.proofs.Standing.{count-listed, count-room}
use Rattle.dex_slab.proofs.slab_ref.SlabRefSideRead.count.Goals as goal

pub overflow_cast-result : goal.overflow_cast-result
overflow_cast-result c = omega (arith, c.get_u64.ensures, count-room c.args.self.now.bytes.now c.requires, c.requires.size.few)

pub returns : goal.returns
returns c = c.get_u64.ensures ∙ sym (count-listed c.args.self.now.side c.args.self.now.bytes.now c.requires)

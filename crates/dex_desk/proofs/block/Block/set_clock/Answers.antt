use Rattle.std.proofs.Common.{arith, w64}
use Rattle.std.proofs.lemmas.Int.{to_z-of_z}
use Rattle.dex_desk.specs.BlockInside.{block_inside}
use Rattle.dex_desk.proofs.BlockLaws.{clock-block}
use Rattle.dex_desk.proofs.block.Block.set_clock.Goals as goal

pub invariant_of-self : goal.invariant_of-self
invariant_of-self c = record {
  block = clock-block (block_inside c.self.inside) c.args.now _ c.saturating_add-self-inside.result c.requires.0 c.self.invariant.block c.requires.1
      (to_z-of_z w64 c.args.now c.ranges.now) (omega (arith, c.saturating_add-self-inside.ensures));
  placed = c.self.invariant.placed;
  beside = c.self.invariant.beside;
  names = c.self.invariant.names;
}

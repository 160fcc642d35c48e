use Rattle.std.proofs.Common.{ap, arith, map}
use Rattle.dex_types.specs.Accounts.{accounts_of}
use Rattle.dex_types.specs.Rows.{row_of}
use Rattle.dex_desk.proofs.BlockLaws.{fresh-block}
use Rattle.dex_desk.proofs.block.Block.of.Goals as goal

pub invariant_of-result : goal.invariant_of-result
invariant_of-result c = record {
  block = fresh-block (accounts_of c.args.start) c.args.program _ c.args.number _ (ap (map row_of) c.new.ensures.items) (omega (arith, c.ranges.number.fits)) c.requires.start;
  placed = rw (c.new.ensures.items, c.new-2.ensures.items) tt;
  beside = rw (c.new.ensures.items, c.new-2.ensures.items) tt;
  names = c.requires.names;
}

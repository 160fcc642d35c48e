use Rattle.std.proofs.Common.{arith}
use Rattle.dex_parts.proofs.CutLaws.{all-parts, one-part-more}
use Rattle.dex_parts.proofs.chains.counts_of.Goals as goal

pub parts-preserved : goal.parts-preserved
parts-preserved c =
    one-part-more c.args.most c.front_of-count.result c.parts.counts.items c.push_count.new.counts.items c.parts.left.now c.split_at.result.1.now c.args.places.now
    c.parts.invariant c.front_of-count.ensures c.in_ok-push_count.ensures c.split_at.ensures.back

pub returns : goal.returns
returns c = all-parts c.args.most c.parts.counts.items c.parts.left.now c.args.places.now c.parts.invariant (omega (arith, c.parts-test.false))

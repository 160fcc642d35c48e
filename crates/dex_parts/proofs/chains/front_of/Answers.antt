use Rattle.std.proofs.Common.{arith}
use Rattle.dex_parts.proofs.CutLaws.{all-of-them, as-many-as-fit, both-legs, one-fewer}
use Rattle.dex_parts.proofs.chains.front_of.Goals as goal

pub returns-then-places-most : goal.returns-then-places-most
returns-then-places-most c =
    all-of-them c.args.places.now c.args.most c.requires.order c.requires.some.1 c.requires.some.0 (omega (arith, c.if-places-most.true))

pub returns-then-places-most-2 : goal.returns-then-places-most-2
returns-then-places-most-2 c =
    as-many-as-fit c.args.places.now c.args.most c.requires.order c.requires.some.1 (omega (arith, c.if-places-most.false)) _ _ c.if-places-most-2.true

pub returns-then-most-eq1 : goal.returns-then-most-eq1
returns-then-most-eq1 c =
    both-legs c.args.places.now c.args.most c.requires.order c.requires.some.1 (omega (arith, c.if-places-most.false)) _ _ c.if-places-most-2.false c.if-most-eq1.true

pub returns-else-most-eq1 : goal.returns-else-most-eq1
returns-else-most-eq1 c =
    one-fewer c.args.places.now c.args.most c.requires.order c.requires.some.1 (omega (arith, c.if-places-most.false)) _ _ c.if-places-most-2.false c.if-most-eq1.false

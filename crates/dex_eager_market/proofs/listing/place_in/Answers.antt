use Rattle.std.proofs.Common.{◌∙◌, sym, arith}
use Rattle.dex_eager_market.specs.Listing.{resting_of}
use Rattle.dex_eager_market.proofs.Lists.{forgets-here, forgets-more, forgets-none, no_resting}
use Rattle.dex_eager_market.proofs.listing.place_in.Goals as goal

pub returns-then-is_same_order : goal.returns-then-is_same_order
returns-then-is_same_order c =
    c.loop-place.invariant
    ∙ forgets-here (resting_of c.args.gone) c.args.list.now c.loop-place.place no_resting (omega arith) (sym c.is_same_order.ensures ∙ c.if-is_same_order.true)

pub loop-place-preserved : goal.loop-place-preserved
loop-place-preserved c =
    c.loop-place.invariant
    ∙ forgets-more (resting_of c.args.gone) c.args.list.now c.loop-place.place no_resting (omega arith) (sym c.is_same_order.ensures ∙ c.if-is_same_order.false)

pub returns : goal.returns
returns c = c.loop-place.invariant ∙ forgets-none (resting_of c.args.gone) c.args.list.now c.loop-place.place (omega arith)

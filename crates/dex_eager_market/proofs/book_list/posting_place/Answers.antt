use Rattle.std.proofs.Common.{◌∙◌, sym, ap, arith}
use Rattle.std.proofs.lemmas.List.{drop_all}
use Rattle.dex_laws.specs.Posted.{place_of}
use Rattle.dex_eager_market.proofs.Lists.{place-here, place-more}
use Rattle.dex_eager_market.proofs.Meetings.{no_order}
use Rattle.dex_eager_market.proofs.book_list.posting_place.Goals as goal

pub returns-then-not-precedes-clause-place : goal.returns-then-not-precedes-clause-place
returns-then-not-precedes-clause-place c =
    sym (place-here c.args.side c.args.id c.args.orders.now c.loop-place.place no_order (omega arith) (sym c.precedes.ensures ∙ c.if-not-precedes.true) c.loop-place.invariant)

pub loop-place-preserved : goal.loop-place-preserved
loop-place-preserved c =
    place-more c.args.side c.args.id c.args.orders.now c.loop-place.place no_order (omega arith) (sym c.precedes.ensures ∙ c.if-not-precedes.false) c.loop-place.invariant

pub returns-clause-place : goal.returns-clause-place
returns-clause-place c =
    omega (arith, c.loop-place.invariant, ap (place_of c.args.side c.args.id) (drop_all c.loop-place.place c.args.orders.now (omega arith)))

use Rattle.std.proofs.Common.{◌∙◌, ◌++◌, take, ap, arith}
use Rattle.std.proofs.lemmas.Bool.{eq-eqb, ne_eqb}
use Rattle.dex_eager_market.proofs.Lists.{find-here, find-more, find-none, without-here, without-more, without-none}
use Rattle.dex_eager_market.proofs.Meetings.{no_order}
use Rattle.dex_eager_market.proofs.book_list.place_with.Goals as goal

pub returns-then-orders-place : goal.returns-then-orders-place
returns-then-orders-place c = record {
  found = c.loop-place.invariant.found ∙ find-here c.args.id c.args.orders.now c.loop-place.place no_order (omega arith) (eq-eqb _ _ c.if-orders-place.true);
  without = c.loop-place.invariant.without
      ∙ ap (λ l. take c.loop-place.place c.args.orders.now ++ l) (without-here c.args.id c.args.orders.now c.loop-place.place no_order (omega arith) (eq-eqb _ _ c.if-orders-place.true));
}

pub loop-place-preserved : goal.loop-place-preserved
loop-place-preserved c = record {
  found = c.loop-place.invariant.found ∙ find-more c.args.id c.args.orders.now c.loop-place.place no_order (omega arith) (ne_eqb _ _ c.if-orders-place.false);
  without = c.loop-place.invariant.without ∙ without-more c.args.id c.args.orders.now c.loop-place.place no_order (omega arith) (ne_eqb _ _ c.if-orders-place.false);
}

pub returns-clause-found : goal.returns-clause-found
returns-clause-found c = c.loop-place.invariant.found ∙ find-none c.args.id c.args.orders.now c.loop-place.place (omega arith)

pub returns-clause-without : goal.returns-clause-without
returns-clause-without c = c.loop-place.invariant.without ∙ without-none c.args.id c.args.orders.now c.loop-place.place (omega arith)

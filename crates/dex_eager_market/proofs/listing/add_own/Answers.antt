use Rattle.std.proofs.Common.{List, ◌∙◌, ◌++◌, ◌∷◌, [], append-nil, get_or, map, take_all, ap, sym, arith}
use Rattle.dex_types.specs.Cancel.{RestingOrder, orders_of}
use Rattle.dex_eager_market.specs.Listing.{resting_of}
use Rattle.dex_eager_market.proofs.Lists.{owned-more}
use Rattle.dex_eager_market.proofs.Meetings.{no_order}
use Rattle.dex_eager_market.proofs.listing.add_own.Goals as goal

pub loop-place-init : goal.loop-place-init
loop-place-init c = record { list = sym (append-nil (map resting_of c.args.list.now.items)); within = omega arith; reserved = omega arith }

pub loop-place-preserved : goal.loop-place-preserved
loop-place-preserved c =
    let orders = c.args.orders.now in
    let place = c.loop-place.place in
    let own = orders_of c.args.owner c.args.side (get_or orders place no_order ∷ []) in
    record {
      list = c.push_own.ensures.list ∙ ap (λ (l : List RestingOrder). l ++ own) c.loop-place.invariant.list
          ∙ owned-more c.args.owner c.args.side orders place no_order (map resting_of c.args.list.now.items) (omega arith);
      within = omega (arith, c.push_own.ensures.within, c.loop-place.invariant.within);
      reserved = omega (arith, c.push_own.ensures.reserved, c.loop-place.invariant.reserved);
    }

pub returns-clause-list : goal.returns-clause-list
returns-clause-list c =
    c.loop-place.invariant.list
    ∙ ap (λ l. map resting_of c.args.list.now.items ++ orders_of c.args.owner c.args.side l) (take_all c.loop-place.place c.args.orders.now (omega arith))

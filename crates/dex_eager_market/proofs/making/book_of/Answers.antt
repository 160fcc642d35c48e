use Rattle.std.proofs.Common.{List, ◌∙◌, ◌∷◌, [], ◌++◌, get_or, take_all, ap, sym, arith}
use Rattle.std.proofs.lemmas.List.{map_more}
use Rattle.dex_types.specs.declared.orders.Order.{Order}
use Rattle.dex_eager.specs.Slots.{without_slot, without_slots}
use Rattle.dex_eager_market.proofs.Meetings.{no_order}
use Rattle.dex_eager_market.proofs.making.book_of.Goals as goal

pub loop-place-preserved : goal.loop-place-preserved
loop-place-preserved c =
    let orders : List Order = c.args.orders.now in
    let order : Order = get_or orders c.loop-place.place no_order in
    record {
      orders = c.in_ok-push.ensures.items ∙ ap (λ (l : List Order). l ++ without_slot order ∷ []) c.loop-place.invariant.orders
          ∙ sym (map_more without_slot orders c.loop-place.place no_order (omega arith));
      reserved = omega (arith, c.in_ok-push.ensures.capacity, c.loop-place.invariant.reserved);
    }

pub returns-clause-orders : goal.returns-clause-orders
returns-clause-orders c = c.loop-place.invariant.orders ∙ ap without_slots (take_all c.loop-place.place c.args.orders.now (omega arith))

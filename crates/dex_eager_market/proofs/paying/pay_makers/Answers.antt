use Rattle.std.proofs.Common.{List, ◌≡◌, ◌<◌, ◌∙◌, ◌+◌, ◌-◌, ◌*◌, ◌^◌, ◌∷◌, drop, get_or, map, refl, sym, ap, subst, arith}
use Rattle.std.proofs.lemmas.List.{drop_all, drop_more}
use Rattle.std.proofs.lemmas.List.Elements.{All-get_or}
use Rattle.dex_types.specs.declared.orders.Order.{Order}
use Rattle.dex_types.specs.Meeting.{Demand, Meeting, demand_after, less, meet, met_none}
use Rattle.dex_types.specs.Side.{opposite}
use Rattle.dex_eager.specs.Eager.{with_fills}
use Rattle.dex_eager.specs.Slots.{maker_fills}
use Rattle.dex_fills.specs.Taker.{taking, demand}
use Rattle.dex_eager_market.specs.Accounts.{entry_of}
use Rattle.dex_eager_market.specs.Foreseen.{CanFill, IsModest}
use Rattle.dex_eager_market.proofs.Changes.{all-more}
use Rattle.dex_eager_market.proofs.Meetings.{FitsOrder, fits-order, meets-none, meets-part, meets-whole, no_order}
use Rattle.dex_eager_market.proofs.Pays.{pays-first}
use Rattle.dex_eager_market.proofs.paying.pay_makers.Goals as goal
use Rattle.dex_eager_market.proofs.paying.pay_makers.Goals.{After-taken-lots}

-- what the next order moves fits, where it is met
fits : (c : After-taken-lots) → 0 < c.taken-lots.result
    → FitsOrder c.args.side (taking c.args.taker) (demand c.orders.left) (get_or c.args.orders.now c.orders.place no_order) c.taken-lots.result
fits c some =
    fits-order c.args.side (taking c.args.taker) (demand c.orders.left) (get_or c.args.orders.now c.orders.place no_order) c.taken-lots.result c.orders.invariant.modest
    (All-get_or (CanFill (opposite c.args.side) c.args.taker.sizes) c.args.orders.now c.orders.place no_order (omega arith) c.requires.orders) c.taken-lots.ensures some

pub pay-requires : goal.pay-requires
pay-requires c =
    let here = fits (goal.at.pay-requires c).After-taken-lots (omega arith) in
    record {
      tier = (All-get_or (CanFill (opposite c.args.side) c.args.taker.sizes) c.args.orders.now c.orders.place no_order (omega arith) c.requires.orders).tier;
      base = here.base;
      pc = here.pc;
      accounts = all-more (2 ^ 125 + (c.args.want.matches - c.orders.left.matches) * 2 ^ 65) (2 ^ 126) c.orders.accounts.items (omega (arith, c.requires.modest.matches))
          (c.orders.invariant.small (2 ^ 125) c.requires.accounts);
    }

pub returns-then-lots-eq0-clause-worths : goal.returns-then-lots-eq0-clause-worths
returns-then-lots-eq0-clause-worths c =
    let t = taking c.args.taker in
    let on = drop_more c.args.orders.now c.orders.place no_order (omega arith) in
    sym (ap (λ (m : Meeting). with_fills (maker_fills m.events) (map entry_of c.orders.accounts.items))
    (meets-none c.args.side t (demand c.orders.left) c.args.orders.now c.orders.place (get_or c.args.orders.now c.orders.place no_order) c.taken-lots.result on c.taken-lots.ensures c.if-lots-eq0.true))
    ∙ c.orders.invariant.paid

pub returns-then-lots-eq0-clause-within : goal.returns-then-lots-eq0-clause-within
returns-then-lots-eq0-clause-within c = λ bound all.
    all-more (bound + (c.args.want.matches - c.orders.left.matches) * 2 ^ 65) (bound + 2 ^ 81) c.orders.accounts.items (omega (arith, c.requires.modest.matches)) (c.orders.invariant.small bound all)

pub returns-then-lots-order-clause-worths : goal.returns-then-lots-order-clause-worths
returns-then-lots-order-clause-worths c =
    let t = taking c.args.taker in
    let orders = c.args.orders.now in
    let place = c.orders.place in
    let order : Order = (get_or c.args.orders.now c.orders.place no_order) in
    let lots = c.taken-lots.result in
    let w = demand c.orders.left in
    let after = demand_after c.args.side t w order lots in
    let left = less order lots ∷ drop (place + 1) orders in
    let on = drop_more orders place no_order (omega arith) in
    let first = meets-part c.args.side t w after orders place order lots on c.taken-lots.ensures (omega arith) c.if-lots-order.true refl in
    c.pay.ensures.worths
    ∙ sym (pays-first c.args.side t order lots (meet c.args.side t w (drop place orders)) (met_none c.args.side t after left) (map entry_of c.orders.accounts.items) first)
    ∙ c.orders.invariant.paid

pub returns-then-lots-order-clause-within : goal.returns-then-lots-order-clause-within
returns-then-lots-order-clause-within c = λ bound all.
    let here = fits (goal.at.returns-then-lots-order-clause-within c).After-taken-lots (omega arith) in
    all-more (bound + (c.args.want.matches - c.orders.left.matches) * 2 ^ 65 + 2 ^ 65) (bound + 2 ^ 81) _
    (omega (arith, c.requires.modest.matches, here.matches, c.orders.invariant.matches))
    (c.pay.ensures.within (bound + (c.args.want.matches - c.orders.left.matches) * 2 ^ 65) (c.orders.invariant.small bound all))

pub orders-preserved : goal.orders-preserved
orders-preserved c =
    let t = taking c.args.taker in
    let orders = c.args.orders.now in
    let place = c.orders.place in
    let order : Order = (get_or c.args.orders.now c.orders.place no_order) in
    let lots = c.taken-lots.result in
    let w = demand c.orders.left in
    let now = c.want_after-left.result in
    let here = fits (goal.at.orders-preserved c).After-taken-lots (omega arith) in
    let on = drop_more orders place no_order (omega arith) in
    let first = meets-whole c.args.side t w (demand now) orders place order lots on c.taken-lots.ensures (omega arith) c.if-lots-order.false c.want_after-left.ensures in
    let rest = meet c.args.side t (demand now) (drop (place + 1) orders) in
    let matches : now.matches + 1 ≡ c.orders.left.matches = omega (arith, here.matches, ap (λ (d : Demand). d.matches) c.want_after-left.ensures) in
    record {
      paid = ap (with_fills (maker_fills rest.events)) c.pay.ensures.worths
          ∙ sym (pays-first c.args.side t order lots (meet c.args.side t w (drop place orders)) rest (map entry_of c.orders.accounts.items) first)
          ∙ c.orders.invariant.paid;
      modest = subst (IsModest c.args.side c.args.taker.sizes) (sym c.want_after-left.ensures) here.modest;
      matches = omega (arith, matches, c.orders.invariant.matches);
      small = λ bound all. all-more (bound + (c.args.want.matches - c.orders.left.matches) * 2 ^ 65 + 2 ^ 65) (bound + (c.args.want.matches - now.matches) * 2 ^ 65) _
          (omega (arith, matches, c.orders.invariant.matches))
          (c.pay.ensures.within (bound + (c.args.want.matches - c.orders.left.matches) * 2 ^ 65) (c.orders.invariant.small bound all));
      within = omega arith;
    }

pub returns-clause-worths : goal.returns-clause-worths
returns-clause-worths c =
    let t = taking c.args.taker in
    let none = drop_all c.orders.place c.args.orders.now (omega arith) in
    sym (ap (λ (os : List Order). with_fills (maker_fills (meet c.args.side t (demand c.orders.left) os).events) (map entry_of c.orders.accounts.items)) none)
    ∙ c.orders.invariant.paid

pub returns-clause-within : goal.returns-clause-within
returns-clause-within c = λ bound all.
    all-more (bound + (c.args.want.matches - c.orders.left.matches) * 2 ^ 65) (bound + 2 ^ 81) c.orders.accounts.items (omega (arith, c.requires.modest.matches)) (c.orders.invariant.small bound all)

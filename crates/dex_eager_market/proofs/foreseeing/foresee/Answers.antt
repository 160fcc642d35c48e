use Rattle.std.proofs.Common.{ℕ, ◌≡◌, ◌<◌, ◌∙◌, ◌+◌, [], ◌∷◌, drop, get_or, refl, sym, ap, subst, arith}
use Rattle.std.proofs.lemmas.List.{drop_all, drop_more}
use Rattle.std.proofs.lemmas.List.Elements.{All-get_or}
use Rattle.dex_types.specs.declared.orders.Order.{Order}
use Rattle.dex_types.specs.Meeting.{Demand, less, meet}
use Rattle.dex_types.specs.Side.{opposite}
use Rattle.dex_fills.specs.Taker.{taking, demand}
use Rattle.dex_eager_market.specs.declared.foreseeing.Sums.{Sums}
use Rattle.dex_eager_market.specs.Foreseen.{CanFill, IsModest, less_first}
use Rattle.dex_eager_market.proofs.Ends.{foreseen-ended, left-less, left-same}
use Rattle.dex_eager_market.proofs.Meetings.{FitsOrder, IsCarried, carried-more, carried-start, fits-order, meets-none, meets-part, meets-whole, no_order}
use Rattle.dex_eager_market.proofs.foreseeing.foresee.Goals as goal
use Rattle.dex_eager_market.proofs.foreseeing.foresee.Goals.{After-taken-lots}

pub orders-init : goal.orders-init
orders-init c = record {
  carried = carried-start _ _;
  modest = c.requires.modest;
  matches = omega arith;
  base = omega arith;
  pc = omega arith;
  rebates = omega arith;
  within = omega arith;
  part = refl;
  crosses = refl;
  aborts = refl;
}

-- what the next order moves fits, where it is met
fits : (c : After-taken-lots) → 0 < c.taken-lots.result
    → FitsOrder c.args.side (taking c.args.taker) (demand c.orders.met.want) (get_or c.args.orders.now c.orders.met.gone no_order) c.taken-lots.result
fits c some =
    fits-order c.args.side (taking c.args.taker) (demand c.orders.met.want) (get_or c.args.orders.now c.orders.met.gone no_order) c.taken-lots.result c.orders.invariant.modest
    (All-get_or (CanFill (opposite c.args.side) c.args.taker.sizes) c.args.orders.now c.orders.met.gone no_order (omega arith) c.requires.orders) c.taken-lots.ensures some

pub foreseen_with-met-requires : goal.foreseen_with-met-requires
foreseen_with-met-requires c =
    let here = fits (goal.at.foreseen_with-met-requires c).After-taken-lots (omega arith) in
    record {
      tier = (All-get_or (CanFill (opposite c.args.side) c.args.taker.sizes) c.args.orders.now c.orders.met.gone no_order (omega arith) c.requires.orders).tier;
      base = here.base;
      pc = here.pc;
      base_sum = omega (arith, c.orders.invariant.base, c.requires.modest.matches);
      pc_sum = omega (arith, c.orders.invariant.pc, c.requires.modest.matches);
      rebates_sum = omega (arith, c.orders.invariant.rebates, c.requires.modest.matches);
    }

pub returns-then-lots-eq0 : goal.returns-then-lots-eq0
returns-then-lots-eq0 c =
    let t = taking c.args.taker in
    let orders = c.args.orders.now in
    let gone = c.orders.met.gone in
    let on = drop_more orders gone no_order (omega arith) in
    let ended = meets-none c.args.side t (demand c.orders.met.want) orders gone (get_or c.args.orders.now c.orders.met.gone no_order) c.taken-lots.result on c.taken-lots.ensures c.if-lots-eq0.true in
    record {
      foreseen = foreseen-ended c.args.side t c.args.taker.limit_price orders _ _ c.orders.met (get_or c.args.orders.now c.orders.met.gone no_order ∷ drop (gone + 1) orders) c.ended.result c.orders.invariant.carried ended
          (left-same orders gone (get_or c.args.orders.now c.orders.met.gone no_order) (drop (gone + 1) orders) c.ended.result.gone c.ended.result.part c.ended.ensures.gone c.ended.ensures.part on)
          (omega (arith, c.ended.ensures.gone, c.orders.invariant.within))
          c.ended.ensures.want c.ended.ensures.sums c.ended.ensures.crosses (c.ended.ensures.aborts (drop (gone + 1) orders));
      base = omega (arith, ap (λ (s : Sums). s.base) c.ended.ensures.sums, c.orders.invariant.base, c.requires.modest.matches);
      pc = omega (arith, ap (λ (s : Sums). s.pc) c.ended.ensures.sums, c.orders.invariant.pc, c.requires.modest.matches);
    }

pub returns-then-lots-order : goal.returns-then-lots-order
returns-then-lots-order c =
    let here = fits (goal.at.returns-then-lots-order c).After-taken-lots (omega arith) in
    let t = taking c.args.taker in
    let orders = c.args.orders.now in
    let gone = c.orders.met.gone in
    let lots = c.taken-lots.result in
    let order : Order = (get_or c.args.orders.now c.orders.met.gone no_order) in
    let others = drop (gone + 1) orders in
    let on = drop_more orders gone no_order (omega arith) in
    let first = meets-part c.args.side t (demand c.orders.met.want) (demand c.foreseen_with-met.result.want) orders gone order lots on c.taken-lots.ensures (omega arith) c.if-lots-order.true
    c.foreseen_with-met.ensures.want in
    let carried = carried-more c.args.side t order lots _ _ _ c.orders.met.sums c.foreseen_with-met.result.sums c.orders.invariant.carried first
    c.foreseen_with-met.ensures.adds in
    let end = c.ended-then-lots-order in
    record {
      foreseen = foreseen-ended c.args.side t c.args.taker.limit_price orders _ _ c.foreseen_with-met.result (less order lots ∷ others) end.result carried refl
          (left-less orders gone order others lots end.result.gone end.result.part (end.ensures.gone ∙ c.foreseen_with-met.ensures.gone) end.ensures.part on)
          (omega (arith, end.ensures.gone, c.foreseen_with-met.ensures.gone, c.orders.invariant.within))
          end.ensures.want end.ensures.sums end.ensures.crosses (end.ensures.aborts others);
      base = omega (arith, ap (λ (s : Sums). s.base) end.ensures.sums, c.foreseen_with-met.ensures.adds.base, here.base, c.orders.invariant.base, c.requires.modest.matches);
      pc = omega (arith, ap (λ (s : Sums). s.pc) end.ensures.sums, c.foreseen_with-met.ensures.adds.pc, here.pc, c.orders.invariant.pc, c.requires.modest.matches);
    }

pub orders-preserved : goal.orders-preserved
orders-preserved c =
    let t = taking c.args.taker in
    let orders = c.args.orders.now in
    let gone = c.orders.met.gone in
    let lots = c.taken-lots.result in
    let order : Order = (get_or c.args.orders.now c.orders.met.gone no_order) in
    let now = c.foreseen_with-met.result in
    let here = fits (goal.at.orders-preserved c).After-taken-lots (omega arith) in
    let on = drop_more orders gone no_order (omega arith) in
    let first = meets-whole c.args.side t (demand c.orders.met.want) (demand now.want) orders gone order lots on c.taken-lots.ensures (omega arith) c.if-lots-order.false
    c.foreseen_with-met.ensures.want in
    let carried = carried-more c.args.side t order lots _ _ _ c.orders.met.sums now.sums c.orders.invariant.carried first c.foreseen_with-met.ensures.adds in
    let next : gone + 1 ≡ now.gone + 1 = omega (arith, c.foreseen_with-met.ensures.gone) in
    let matches : now.want.matches + 1 ≡ c.orders.met.want.matches = omega (arith, here.matches, ap (λ (d : Demand). d.matches) c.foreseen_with-met.ensures.want) in
    record {
      carried = subst (λ (n : ℕ). IsCarried c.args.taker.sizes.coin (meet c.args.side t (demand c.args.want) orders) (meet c.args.side t (demand now.want) (drop n orders)) now.sums) next
          carried;
      modest = subst (IsModest c.args.side c.args.taker.sizes) (sym c.foreseen_with-met.ensures.want) here.modest;
      matches = omega (arith, matches, c.orders.invariant.matches);
      base = omega (arith, matches, c.orders.invariant.matches, c.orders.invariant.base, c.foreseen_with-met.ensures.adds.base, here.base);
      pc = omega (arith, matches, c.orders.invariant.matches, c.orders.invariant.pc, c.foreseen_with-met.ensures.adds.pc, here.pc);
      rebates = omega (arith, matches, c.orders.invariant.matches, c.orders.invariant.rebates, c.foreseen_with-met.ensures.small, here.pc);
      within = omega (arith, c.foreseen_with-met.ensures.gone);
      part = c.foreseen_with-met.ensures.part ∙ c.orders.invariant.part;
      crosses = c.foreseen_with-met.ensures.crosses ∙ c.orders.invariant.crosses;
      aborts = c.foreseen_with-met.ensures.aborts ∙ c.orders.invariant.aborts;
    }

pub returns : goal.returns
returns c =
    let t = taking c.args.taker in
    let orders = c.args.orders.now in
    let none = drop_all c.orders.met.gone orders (omega arith) in
    record {
      foreseen = foreseen-ended c.args.side t c.args.taker.limit_price orders _ _ c.orders.met [] c.orders.met c.orders.invariant.carried (ap (meet c.args.side t (demand c.orders.met.want)) none)
          (ap (less_first c.orders.met.part) none) c.orders.invariant.within refl refl c.orders.invariant.crosses c.orders.invariant.aborts;
      base = omega (arith, c.orders.invariant.base, c.requires.modest.matches);
      pc = omega (arith, c.orders.invariant.pc, c.requires.modest.matches);
    }

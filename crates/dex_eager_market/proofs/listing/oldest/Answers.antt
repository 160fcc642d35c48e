use Rattle.std.proofs.Common.{Option, Some, ◌≡◌, ◌∙◌, ◌-◌, drop, eqb, get_or, map, ap, sym, arith, if◌then◌else◌}
use Rattle.std.proofs.lemmas.List.{drop_all}
use Rattle.dex_types.specs.Cancel.{RestingOrder, older, oldest}
use Rattle.dex_eager_market.specs.Listing.{resting_of}
use Rattle.dex_eager_market.proofs.Lists.{no_resting, oldest-more}
use Rattle.dex_eager_market.proofs.listing.oldest.Goals as goal

pub orders-init : goal.orders-init
orders-init c = record { found = sym (ap (λ l. oldest c.args.client (map resting_of l)) (drop_all _ c.args.list.now (omega arith))); within = omega arith }

pub orders-preserved : goal.orders-preserved
orders-preserved c =
    let list = c.args.list.now in
    let before = c.orders.place in
    let first = resting_of (get_or list (before - 1) no_resting) in
    record {
      found = c.older_with-found.ensures
          ∙ ap (λ (f : Option RestingOrder). if eqb first.order.client c.args.client then Some (older first f) else f) c.orders.invariant.found
          ∙ sym (oldest-more c.args.client list (before - 1) before no_resting (omega (arith, c.orders.invariant.within)) (omega arith));
      within = omega (arith, c.orders.invariant.within);
    }

pub returns : goal.returns
returns c =
    let front : c.orders.place ≡ 0 = omega arith in
    c.orders.invariant.found ∙ ap (λ n. oldest c.args.client (map resting_of (drop n c.args.list.now))) front

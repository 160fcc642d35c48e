use Rattle.std.proofs.Common.{◌≡◌, is_some, sym, ap, ◌∙◌, subst}
use Rattle.dex_world.proofs.Common.{PlainRow, Seen, request_of, row_of, row_step, seen_by, why}
use Rattle.dex_cell.specs.CellState.{market_at}
use Rattle.dex_world.specs.Items.{doing}
use Rattle.dex_act.specs.Acted.{HaveActed}
use Rattle.dex_act.specs.Steps.{CanStep, world_in_hand}
use Rattle.dex_act.proofs.StepLaws.{can-act, can-hold, sees-row, stepped}
use Rattle.dex_act.proofs.BehindLaws.{can-behind, listed, seen-behind}
use Rattle.dex_act.proofs.steps.step_two.Goals as goal
use Rattle.dex_act.proofs.steps.step_two.Goals.{After-done-one}

pub is_refused-one_refused-requires : goal.is_refused-one_refused-requires
is_refused-one_refused-requires c =
    record { market = c.requires.first_can.on; sees = sees-row c.args.terms.now c.args.legs.now.first.row.now c.see.ensures.seen c.requires.first_can }

pub is_refused-two_refused-requires : goal.is_refused-two_refused-requires
is_refused-two_refused-requires c =
    record { market = c.requires.second_can.on; sees = sees-row c.args.terms.now c.args.legs.now.second.row.now c.see-2.ensures.seen c.requires.second_can }

-- ---- the first acts or waits

pub done-one-requires-clause-can : goal.done-one-requires-clause-can
done-one-requires-clause-can c = can-act c.args.terms.now c.args.legs.now.first.row.now c.see.ensures.seen c.requires.first_can c.see.ensures.fits

pub done-one-requires-clause-held : goal.done-one-requires-clause-held
done-one-requires-clause-held c =
    can-hold c.args.terms.now c.args.legs.now.first.row.now c.see.new.seen c.args.first.now c.args.wallets.now c.see.ensures.seen c.requires.first_take
    c.waits-one_waits.result c.is_refused-two_refused.result c.is_refused-one_refused.result c.waits-one_waits.ensures c.is_refused-one_refused.ensures

-- ---- and then the second

abbrev first : After-done-one → PlainRow
first c = row_of c.args.legs.now.first.row.now

abbrev second : After-done-one → PlainRow
second c = row_of c.args.legs.now.second.row.now

moved : (c : After-done-one)
    → let done = doing c.waits-one_waits.result (first c) in
    HaveActed done c.see.new.seen (row_step done c.see.new.seen (market_at c.args.first.now)).transfers c.args.wallets.now c.done-one.new.wallets
moved c =
    let done = doing c.waits-one_waits.result (first c) in
    subst (λ (seen : Seen). HaveActed done seen (row_step done seen (market_at c.args.first.now)).transfers c.args.wallets.now c.done-one.new.wallets) c.done-one.ensures.seen
    c.done-one.ensures.done.wallets

same : (c : After-done-one) → seen_by (second c) (world_in_hand c.args.terms.now c.done-one.new.wallets) ≡ seen_by (second c) (world_in_hand c.args.terms.now c.args.wallets.now)
same c =
    seen-behind (first c) (second c) c.requires.share c.waits-one_waits.result c.see.new.seen (market_at c.args.first.now) c.args.wallets.now c.done-one.new.wallets
    (moved c) c.args.terms.now c.see.ensures.seen (listed (first c) c.args.first.now c.requires.first_can.on)

can : (c : After-done-one) → CanStep (second c) c.args.legs.now.second.places c.args.second.now c.done-one.new.wallets
can c =
    can-behind (first c) (second c) c.requires.share c.waits-one_waits.result c.see.new.seen (market_at c.args.first.now) c.args.wallets.now c.done-one.new.wallets
    (moved c) c.args.legs.now.second.places c.args.second.now c.requires.second_can

pub done-two-requires-clause-can : goal.done-two-requires-clause-can
done-two-requires-clause-can c =
    can-act c.args.terms.now c.args.legs.now.second.row.now (c.see-2.ensures.seen ∙ sym (same (goal.at.done-two-requires-clause-can c).After-done-one))
    (can (goal.at.done-two-requires-clause-can c).After-done-one) c.see-2.ensures.fits

pub done-two-requires-clause-held : goal.done-two-requires-clause-held
done-two-requires-clause-held c =
    can-hold c.args.terms.now c.args.legs.now.second.row.now c.see-2.new.seen c.args.second.now c.args.wallets.now c.see-2.ensures.seen c.requires.second_take
    c.waits-two_waits.result c.is_refused-one_refused.result c.is_refused-two_refused.result c.waits-two_waits.ensures c.is_refused-two_refused.ensures

pub returns : goal.returns
returns c =
    let between = (goal.at.returns c).After-done-one in
    let two_seen = c.done-two.ensures.seen ∙ c.see-2.ensures.seen in
    record {
      one_refused = c.is_refused-one_refused.result;
      two_refused = c.is_refused-two_refused.result;
      one_is = c.is_refused-one_refused.ensures ∙ ap (λ (seen : Seen). is_some (why (request_of (first between)) seen (market_at c.args.first.now))) (sym c.done-one.ensures.seen);
      two_is = c.is_refused-two_refused.ensures ∙ ap (λ (seen : Seen). is_some (why (request_of (second between)) seen (market_at c.args.second.now))) (sym c.done-two.ensures.seen);
      between = c.done-one.new.wallets;
      one = stepped c.args.terms.now c.args.legs.now.first.row.now c.done-one.result (c.done-one.ensures.seen ∙ c.see.ensures.seen) c.requires.first_can
          c.waits-one_waits.ensures c.done-one.ensures.recorded c.done-one.ensures.done;
      two = stepped c.args.terms.now c.args.legs.now.second.row.now c.done-two.result (two_seen ∙ sym (same between)) (can between)
          c.waits-two_waits.ensures c.done-two.ensures.recorded c.done-two.ensures.done;
      two_seen = two_seen;
    }

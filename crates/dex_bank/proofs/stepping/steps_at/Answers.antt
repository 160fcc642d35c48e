use Rattle.std.proofs.Common.{◌++◌, ◌<◌, ◌≤◌, List, get_or, set, ap, ap₂, ◌∙◌, subst₂, arith, ⊎_elim}
use Rattle.std.proofs.lemmas.Bool.{cases_lt}
use Rattle.dex_bank.proofs.Common.{MarketCellState}
use Rattle.dex_act.specs.Steps.{AreStepsOn}
use Rattle.dex_bank.proofs.StepMarkets.{back-at, front-at, set-parts, set-parts-back}
use Rattle.dex_bank.proofs.stepping.steps_at.Goals as goal

pub returns-then-one-two : goal.returns-then-one-two
returns-then-one-two c =
    let markets : List MarketCellState = c.args.markets.now in
    let one = c.args.one in
    let two = c.args.two in
    let first : MarketCellState = c.step_two.new.first in
    let second : MarketCellState = c.step_two.new.second in
    let parts = c.split_at_mut-lower.ensures in
    let lower = c.index-lower-one.result in
    let upper = c.index-upper-0.result in
    let steps = λ (m n : MarketCellState). AreStepsOn c.args.terms.now c.args.legs.now c.step_two.result m first n second c.args.wallets.now c.step_two.new.wallets in
    record {
      first = first;
      second = second;
      are = ap₂ (λ (front back : List MarketCellState). set front one first ++ set back 0 second) parts.front parts.back
          ∙ set-parts markets one two first second c.if-one-two.true c.requires.within.1;
      steps = λ d.
          subst₂ steps
          (ap (λ (l : List MarketCellState). get_or l one lower) parts.front ∙ front-at markets two one lower d c.if-one-two.true c.requires.within.0)
          (ap (λ (l : List MarketCellState). get_or l 0 upper) parts.back ∙ back-at markets two upper d c.requires.within.1) c.step_two.ensures;
    }

pub returns-else-one-two : goal.returns-else-one-two
returns-else-one-two c =
    let markets : List MarketCellState = c.args.markets.now in
    let one = c.args.one in
    let two = c.args.two in
    let first : MarketCellState = c.step_two-else-one-two.new.first in
    let second : MarketCellState = c.step_two-else-one-two.new.second in
    let parts = c.split_at_mut-lower-else-one-two.ensures in
    let upper = c.index-upper-0-else-one-two.result in
    let lower = c.index-lower-two.result in
    let below : two < one = ⊎_elim (λ lower. lower) (λ (not : one ≤ two). absurd (c.requires.apart (omega (arith, c.if-one-two.false, not)))) (cases_lt two one) in
    let steps = λ (m n : MarketCellState).
    AreStepsOn c.args.terms.now c.args.legs.now c.step_two-else-one-two.result m first n second c.args.wallets.now c.step_two-else-one-two.new.wallets in
    record {
      first = first;
      second = second;
      are = ap₂ (λ (front back : List MarketCellState). set front two second ++ set back 0 first) parts.front parts.back
          ∙ set-parts-back markets one two first second below c.requires.within.0;
      steps = λ d.
          subst₂ steps (ap (λ (l : List MarketCellState). get_or l 0 upper) parts.back ∙ back-at markets one upper d c.requires.within.0)
          (ap (λ (l : List MarketCellState). get_or l two lower) parts.front ∙ front-at markets one two lower d below c.requires.within.1)
          c.step_two-else-one-two.ensures;
    }

-- a taker stays within its demand: lots, matches and budget; rebates are part of what was traded
use Rattle.std.proofs.Common.{ℕ, ◌+◌, ◌-◌, ◌*◌, ◌/◌, ◌≤◌, ◌≡◌, ⊎_elim, true, false, min, List, refl, sym, ap, ◌∙◌, arith}
use Rattle.std.proofs.Math.Nat.{mul-div-le, min-le_left, min-le_right, mul_comm, mul-le-mul_right, add-mul, mul-add}
use Rattle.std.proofs.lemmas.Bool.{cases_Bool}
use Rattle.dex_types.specs.declared.orders.Order.{Order}
use Rattle.dex_types.specs.declared.terms.SelfTrade.{SelfTrade}
use Rattle.dex_types.specs.declared.terms.SelfTrade.TheVariants.{Decrement, CancelProvide, Abort}
use Rattle.dex_types.specs.declared.terms.Side.{Side}
use Rattle.dex_types.specs.declared.terms.Side.TheVariants.{Bid, Ask}
use Rattle.dex_types.specs.Fees.{tier_at}
use Rattle.dex_types.specs.Meeting.{TakerTerms, Demand, is_own, filled, demand_after_own, demand_after, met_lots, met_pc, met_rebate, fill_pc, meet}
use Rattle.dex_types.specs.Side.{price_of}
use Rattle.dex_fees.specs.Rates.{greatest_maker_rate}
use Rattle.dex_fees.proofs.FeeLaws.{maker_rebate-rate, greatest_maker_rate-le}
use Rattle.dex_laws.proofs.Taken.{Takes}
use Rattle.dex_laws.proofs.MeetLaws.{meet-induction}

-- each order met uses one match
demand_after_own-matches : (rule : SelfTrade) (w : Demand) (lots : ℕ) → (demand_after_own rule w lots).matches ≡ w.matches - 1
demand_after_own-matches Decrement w lots = refl
demand_after_own-matches CancelProvide w lots = refl
demand_after_own-matches Abort w lots = refl

-- whoever's order it was, one match is used
pub demand_after-matches : (side : Side) (t : TakerTerms) (w : Demand) (order : Order) (lots : ℕ) → (demand_after side t w order lots).matches ≡ w.matches - 1
unfolding demand_after
demand_after-matches side t w order lots =
    ⊎_elim (λ (own : is_own t.owner order ≡ true). rw own (demand_after_own-matches t.self_trade w lots)) (λ (other : is_own t.owner order ≡ false). rw other refl)
    (cases_Bool (is_own t.owner order))

-- the matches never rise
pub meet-matches : (side : Side) (t : TakerTerms) (w : Demand) (orders : List Order) → (meet side t w orders).demand.matches ≤ w.matches
meet-matches side t = meet-induction side t (λ w orders met. met.demand.matches ≤ w.matches) (record {
  ended = λ w orders none. omega arith;
  part = λ w order others lots takes part. omega (arith, demand_after-matches side t w order lots);
  whole = λ w order others lots rest takes whole held. omega (arith, demand_after-matches side t w order lots);
})

-- an own order never raises the lots that are wanted, nor does it touch the budget
demand_after_own-lots : (rule : SelfTrade) (w : Demand) (lots : ℕ) → (demand_after_own rule w lots).lots ≤ w.lots
demand_after_own-lots Decrement w lots = omega arith
demand_after_own-lots CancelProvide w lots = omega arith
demand_after_own-lots Abort w lots = omega arith

demand_after_own-budget : (rule : SelfTrade) (w : Demand) (lots : ℕ) → (demand_after_own rule w lots).budget ≡ w.budget
demand_after_own-budget Decrement w lots = refl
demand_after_own-budget CancelProvide w lots = refl
demand_after_own-budget Abort w lots = refl

-- no more fills than is wanted
pub filled-wanted : (side : Side) (w : Demand) (order : Order) → filled side w order ≤ w.lots
filled-wanted Bid w order = omega (arith, min-le_left (min order.lots w.lots) (w.budget / price_of order.id), min-le_right order.lots w.lots)
filled-wanted Ask w order = min-le_right order.lots w.lots

-- of one order: what fills is no longer wanted
pub met_lots-demand : (side : Side) (t : TakerTerms) (w : Demand) (order : Order) (lots : ℕ) → Takes side t w order lots
    → met_lots t order lots + (demand_after side t w order lots).lots ≤ w.lots
unfolding demand_after
met_lots-demand side t w order lots takes =
    ⊎_elim (λ (own : is_own t.owner order ≡ true). rw own (omega (arith, demand_after_own-lots t.self_trade w lots)))
    (λ (other : is_own t.owner order ≡ false). rw other (omega (arith, takes.of_other other, filled-wanted side w order)))
    (cases_Bool (is_own t.owner order))

-- what fills and what is still wanted is at most what was wanted
pub meet-lots : (side : Side) (t : TakerTerms) (w : Demand) (orders : List Order) → (meet side t w orders).lots + (meet side t w orders).demand.lots ≤ w.lots
meet-lots side t = meet-induction side t (λ w orders met. met.lots + met.demand.lots ≤ w.lots) (record {
  ended = λ w orders none. omega arith;
  part = λ w order others lots takes part. omega (arith, met_lots-demand side t w order lots takes);
  whole = λ w order others lots rest takes whole held. omega (arith, met_lots-demand side t w order lots takes);
})

-- a bid's fill is paid from its budget
filled-budget : (w : Demand) (order : Order) → filled Bid w order * price_of order.id ≤ w.budget
filled-budget w order =
    let quotient : filled Bid w order ≤ w.budget / price_of order.id = min-le_right (min order.lots w.lots) (w.budget / price_of order.id) in
    omega (arith, mul-le-mul_right (price_of order.id) quotient, mul-div-le w.budget (price_of order.id), mul_comm (w.budget / price_of order.id) (price_of order.id))

-- what is paid and what is kept of a budget, in native amounts
paid-kept : (price lots pc budget : ℕ) → lots * price ≤ budget → price * lots * pc + (budget - lots * price) * pc ≡ budget * pc
paid-kept price lots pc budget within =
    let parts : (lots * price + (budget - lots * price)) * pc ≡ lots * price * pc + (budget - lots * price) * pc = add-mul (lots * price) (budget - lots * price) pc in
    let whole : lots * price + (budget - lots * price) ≡ budget = omega arith in
    rw (mul_comm price lots) (sym parts ∙ ap (λ b. b * pc) whole)

-- of one order: what a bid trades is what its budget loses
pub met_pc-budget : (t : TakerTerms) (w : Demand) (order : Order) (lots : ℕ) → Takes Bid t w order lots
    → met_pc t order lots + (demand_after Bid t w order lots).budget * t.sizes.pc ≡ w.budget * t.sizes.pc
unfolding demand_after
met_pc-budget t w order lots takes =
    ⊎_elim (λ (own : is_own t.owner order ≡ true). rw (own, demand_after_own-budget t.self_trade w lots) (omega arith))
    (λ (other : is_own t.owner order ≡ false).
    rw other (paid-kept (price_of order.id) lots t.sizes.pc w.budget (rw (takes.of_other other) (filled-budget w order))))
    (cases_Bool (is_own t.owner order))

-- so it is in a meeting
pub meet-budget : (t : TakerTerms) (w : Demand) (orders : List Order)
    → (meet Bid t w orders).pc + (meet Bid t w orders).demand.budget * t.sizes.pc ≡ w.budget * t.sizes.pc
meet-budget t = meet-induction Bid t (λ w orders met. met.pc + met.demand.budget * t.sizes.pc ≡ w.budget * t.sizes.pc) (record {
  ended = λ w orders none. omega arith;
  part = λ w order others lots takes part. omega (arith, met_pc-budget t w order lots takes);
  whole = λ w order others lots rest takes whole held. omega (arith, met_pc-budget t w order lots takes);
})

demand_after-budget_ask : (t : TakerTerms) (w : Demand) (order : Order) (lots : ℕ) → (demand_after Ask t w order lots).budget ≡ w.budget
unfolding demand_after
demand_after-budget_ask t w order lots =
    ⊎_elim (λ (own : is_own t.owner order ≡ true). rw own (demand_after_own-budget t.self_trade w lots)) (λ (other : is_own t.owner order ≡ false). rw other refl)
    (cases_Bool (is_own t.owner order))

-- an ask spends no budget
pub meet-budget_ask : (t : TakerTerms) (w : Demand) (orders : List Order) → (meet Ask t w orders).demand.budget ≡ w.budget
meet-budget_ask t = meet-induction Ask t (λ w orders met. met.demand.budget ≡ w.budget) (record {
  ended = λ w orders none. refl;
  part = λ w order others lots takes part. demand_after-budget_ask t w order lots;
  whole = λ w order others lots rest takes whole held. held ∙ demand_after-budget_ask t w order lots;
})

-- of one order: the rebate is at most the greatest rate of the fill
pub met_rebate-rate : (t : TakerTerms) (order : Order) (lots : ℕ) → 10000 * met_rebate t order lots ≤ greatest_maker_rate t.program * met_pc t order lots
met_rebate-rate t order lots =
    ⊎_elim (λ (own : is_own t.owner order ≡ true). rw own (omega arith))
    (λ (other : is_own t.owner order ≡ false). rw other (maker_rebate-rate t.program (tier_at order.tier) (fill_pc t.sizes order lots)))
    (cases_Bool (is_own t.owner order))

-- so the rebates of a meeting are at most the greatest rate of what was traded
pub meet-rebates : (side : Side) (t : TakerTerms) (w : Demand) (orders : List Order)
    → 10000 * (meet side t w orders).rebates ≤ greatest_maker_rate t.program * (meet side t w orders).pc
meet-rebates side t = meet-induction side t (λ w orders met. 10000 * met.rebates ≤ greatest_maker_rate t.program * met.pc) (record {
  ended = λ w orders none. omega arith;
  part = λ w order others lots takes part. omega (arith, met_rebate-rate t order lots);
  whole = λ w order others lots rest takes whole held.
      omega (arith, met_rebate-rate t order lots, mul-add (greatest_maker_rate t.program) (met_pc t order lots) rest.pc);
})

-- rebates are at most what was traded
pub meet-rebates_le : (side : Side) (t : TakerTerms) (w : Demand) (orders : List Order) → (meet side t w orders).rebates ≤ (meet side t w orders).pc
meet-rebates_le side t w orders =
    omega (arith, meet-rebates side t w orders, mul-le-mul_right (meet side t w orders).pc (greatest_maker_rate-le t.program))

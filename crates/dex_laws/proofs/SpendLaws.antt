-- a new order is paid from its lock: its fills with the fee, and what rests
use Rattle.std.proofs.Common.{ℕ, ◌+◌, ◌-◌, ◌*◌, ◌/◌, ◌≤◌, ◌≡◌, cond, min, List, arith}
use Rattle.std.proofs.Math.Nat.{mul-div-le, min-le_left, min-le_right, mul_comm, mul_right_comm, mul-le-mul_left, mul-le-mul_right, add-mul}
use Rattle.std.proofs.lemmas.Bool.{cond_both}
use Rattle.dex_types.specs.declared.orders.Order.{Order}
use Rattle.dex_types.specs.declared.terms.Lots.{Lots}
use Rattle.dex_types.specs.declared.terms.Program.{Program}
use Rattle.dex_types.specs.declared.terms.Side.{Side}
use Rattle.dex_types.specs.declared.terms.Side.TheVariants.{Bid, Ask}
use Rattle.dex_types.specs.declared.terms.Tier.{Tier}
use Rattle.dex_types.specs.Fees.{taker_fee, spendable, referrer_part}
use Rattle.dex_types.specs.Meeting.{TakerTerms, Demand, Meeting, meet}
use Rattle.dex_types.specs.NewOrder.{NewOrder, full_lock, budget, terms_of, demand_of, fee_of, spent, rested}
use Rattle.dex_types.specs.Posting.{affordable, can_rest, still_crosses}
use Rattle.dex_types.specs.Side.{lock}
use Rattle.dex_fees.proofs.FeeLaws.{spendable-within, taker_fee-le, fee-covers}
use Rattle.dex_laws.proofs.DemandLaws.{meet-budget, meet-lots, meet-rebates}

-- a bid whose budget is part of what a lock can spend trades no more than the lock pays with the fee
pub meet-spendable : (program : Program) (tier : Tier) (locked : ℕ) (t : TakerTerms) (w : Demand) (orders : List Order)
    → w.budget * t.sizes.pc ≤ spendable program tier locked
    → (meet Bid t w orders).pc + taker_fee program tier (meet Bid t w orders).pc ≤ locked
meet-spendable program tier locked t w orders within =
    spendable-within program tier locked (meet Bid t w orders).pc (omega (arith, meet-budget t w orders))

budget-spendable : (sizes : Lots) (n : NewOrder) → budget Bid sizes n * sizes.pc ≤ spendable n.program n.tier n.max_pc
budget-spendable sizes n =
    rw (mul_comm (spendable n.program n.tier n.max_pc / sizes.pc) sizes.pc) (mul-div-le (spendable n.program n.tier n.max_pc) sizes.pc)

-- what a new order meets on a side
abbrev pub met_by : Side → Lots → NewOrder → List Order → Meeting
met_by side sizes n orders = meet side (terms_of sizes n) (demand_of side sizes n) orders

-- the lock of a new order pays its fills, the fee with them
pub spent-le : (side : Side) (sizes : Lots) (n : NewOrder) (orders : List Order) → spent side sizes n (met_by side sizes n orders) ≤ full_lock side sizes n
spent-le Bid sizes n orders =
    meet-spendable n.program n.tier n.max_pc (terms_of sizes n) (demand_of Bid sizes n) orders (budget-spendable sizes n)
spent-le Ask sizes n orders =
    mul-le-mul_right sizes.coin (omega (arith, meet-lots Ask (terms_of sizes n) (demand_of Ask sizes n) orders))

-- the fee is part of what was traded, and covers the referrer's part and the rebates
pub fee_of-le : (n : NewOrder) (met : Meeting) → fee_of n met ≤ met.pc
fee_of-le n met = taker_fee-le n.program n.tier met.pc

-- of each meeting: the referrer's part and the rebates come out of the fee
pub fee_of-covers : (side : Side) (sizes : Lots) (n : NewOrder) (orders : List Order)
    → referrer_part (fee_of n (met_by side sizes n orders)) + (met_by side sizes n orders).rebates ≤ fee_of n (met_by side sizes n orders)
fee_of-covers side sizes n orders =
    fee-covers n.program n.tier (met_by side sizes n orders).pc (met_by side sizes n orders).rebates
    (meet-rebates side (terms_of sizes n) (demand_of side sizes n) orders)

-- the lots that a lock can pay are paid by it
affordable-bid : (sizes : Lots) (price lots left : ℕ) → lock Bid sizes price (affordable Bid sizes price lots left) ≤ left
affordable-bid sizes price lots left =
    let quotient : min lots (left / (price * sizes.pc)) ≤ left / (price * sizes.pc) = min-le_right lots (left / (price * sizes.pc)) in
    let product : price * sizes.pc * min lots (left / (price * sizes.pc)) ≤ left =
    omega (arith, mul-le-mul_left (price * sizes.pc) quotient, mul-div-le left (price * sizes.pc)) in
    let turned : price * min lots (left / (price * sizes.pc)) * sizes.pc ≡ price * sizes.pc * min lots (left / (price * sizes.pc)) =
    mul_right_comm price (min lots (left / (price * sizes.pc))) sizes.pc in
    rw turned product

-- what rests is paid by what the fills left of the lock
rested_lots-within : (P : ℕ → Type 0) (side : Side) (sizes : Lots) (n : NewOrder) (met : Meeting)
    → P 0 → P (affordable side sizes n.price met.demand.lots (full_lock side sizes n - spent side sizes n met)) → P (rested side sizes n met)
rested_lots-within P side sizes n met none some =
    let left : ℕ = full_lock side sizes n - spent side sizes n met in
    cond_both (can_rest n.order_type) (cond (still_crosses side n.price met.left) 0 (affordable side sizes n.price met.demand.lots left)) 0 P
    (λ may. cond_both (still_crosses side n.price met.left) 0 (affordable side sizes n.price met.demand.lots left) P (λ crosses. none) (λ clear. some))
    (λ never. none)

-- fills, fee and what rests are paid by the lock
pub rested-paid : (side : Side) (sizes : Lots) (n : NewOrder) (orders : List Order)
    → spent side sizes n (met_by side sizes n orders) + lock side sizes n.price (rested side sizes n (met_by side sizes n orders)) ≤ full_lock side sizes n
rested-paid Bid sizes n orders =
    let met : Meeting = met_by Bid sizes n orders in
    rested_lots-within (λ lots. spent Bid sizes n met + lock Bid sizes n.price lots ≤ full_lock Bid sizes n) Bid sizes n met
    (omega (arith, spent-le Bid sizes n orders))
    (omega (arith, spent-le Bid sizes n orders, affordable-bid sizes n.price met.demand.lots (full_lock Bid sizes n - spent Bid sizes n met)))
rested-paid Ask sizes n orders =
    let met : Meeting = met_by Ask sizes n orders in
    rested_lots-within (λ lots. spent Ask sizes n met + lock Ask sizes n.price lots ≤ full_lock Ask sizes n) Ask sizes n met
    (omega (arith, spent-le Ask sizes n orders))
    (rw (← (add-mul met.lots met.demand.lots sizes.coin)) (mul-le-mul_right sizes.coin (meet-lots Ask (terms_of sizes n) (demand_of Ask sizes n) orders)))

-- a new order rests no more lots than it still wants
pub rested-wanted : (side : Side) (sizes : Lots) (n : NewOrder) (met : Meeting) → rested side sizes n met ≤ met.demand.lots
rested-wanted Bid sizes n met =
    rested_lots-within (λ lots. lots ≤ met.demand.lots) Bid sizes n met (omega arith) (min-le_left met.demand.lots _)
rested-wanted Ask sizes n met = rested_lots-within (λ lots. lots ≤ met.demand.lots) Ask sizes n met (omega arith) (omega arith)

-- what fills pay and take, by token
use Rattle.std.proofs.Common.{ℕ, ◌+◌, ◌-◌, ◌*◌, ◌/◌, ◌≤◌, ◌≡◌, Bool, true, false, cond, eqb, List, [], ◌∷◌, refl, ◌∙◌, ⊎_elim, arith}
use Rattle.std.proofs.Math.Nat.{add-mul, mul_comm, mul-div-le, mul-le-mul_right}
use Rattle.std.proofs.lemmas.Bool.{cases_Bool, cond_both}
use Rattle.dex_types.specs.declared.orders.Order.{Order}
use Rattle.dex_types.specs.declared.terms.Lots.{Lots}
use Rattle.dex_types.specs.declared.terms.Side.{Side}
use Rattle.dex_types.specs.declared.terms.Side.TheVariants.{Bid, Ask}
use Rattle.dex_types.specs.declared.terms.Tier.{Tier}
use Rattle.dex_types.specs.Fees.{taker_fee, referrer_part, tier_at, spendable}
use Rattle.dex_types.specs.Meeting.{TakerTerms, Demand, Meeting, is_own, meet, met_events, met_lots, met_pc, met_rebate, maker_fill, plain_out, releasing_out, fill_pc, fill_rebate}
use Rattle.dex_types.specs.NewOrder.{NewOrder, terms_of, demand_of, fee_of, fees_kept, spent, got}
use Rattle.dex_types.specs.Owed.{leaving}
use Rattle.dex_types.specs.QueuedEvent.{QueuedEvent}
use Rattle.dex_types.specs.Side.{Token, Coin, Pc, by_side, by_token, opposite, locked_token, gained_token}
use Rattle.dex_types.specs.Take.{Take, take_meeting, take_terms, take_demand, take_fee, take_paid, take_got, take_lock, take_budget}
use Rattle.dex_types.specs.Totals.{total}
use Rattle.dex_fees.proofs.FeeLaws.{maker_rebate-le, fee-covers, taker_fee-le}
use Rattle.dex_laws.proofs.MovedLaws.{meet-amount}
use Rattle.dex_laws.proofs.TotalLaws.{total-plus}
use Rattle.dex_laws.proofs.DemandLaws.{meet-rebates, meet-lots}
use Rattle.dex_laws.proofs.SpendLaws.{meet-spendable}
use Rattle.dex_sound.specs.Exchange.{gained, taker_pays, taker_gets, IsBalanced}

-- of one order: an amount that is nothing of an own order, and else that of its fill
told-once : (side : Side) (t : TakerTerms) (told : QueuedEvent → ℕ) (order : Order) (lots amount : ℕ)
    → told (releasing_out (opposite side) t.sizes order lots) ≡ 0 → told (maker_fill (opposite side) t order lots) ≡ amount → told (plain_out (opposite side) order) ≡ 0
    → cond (is_own t.owner order) 0 amount ≡ total told (met_events side t order lots)
told-once side t told order lots amount nothing filled gone =
    ⊎_elim (λ (own : is_own t.owner order ≡ true). rw own (omega arith))
    (λ (other : is_own t.owner order ≡ false). rw other
    (cond_both (eqb lots order.lots) (plain_out (opposite side) order ∷ []) [] (λ outs. amount ≡ told (maker_fill (opposite side) t order lots) + total told outs)
    (λ whole. omega arith) (λ part. omega arith)))
    (cases_Bool (is_own t.owner order))

-- a weight of events that no event of a meeting has
told-never : (side : Side) (t : TakerTerms) (told : QueuedEvent → ℕ)
    → ((order : Order) (lots : ℕ) → told (releasing_out (opposite side) t.sizes order lots) ≡ 0)
    → ((order : Order) (lots : ℕ) → told (maker_fill (opposite side) t order lots) ≡ 0)
    → ((order : Order) → told (plain_out (opposite side) order) ≡ 0)
    → (w : Demand) (orders : List Order) → 0 ≡ total told (meet side t w orders).events
told-never side t told out fill gone =
    meet-amount side t (λ met. 0) (λ order lots. cond (is_own t.owner order) 0 0) told (λ w left. refl)
    (λ order lots rest. cond_both (is_own t.owner order) 0 0 (λ x. 0 ≡ x + 0) (λ own. refl) (λ other. refl))
    (λ order lots within. told-once side t told order lots 0 (out order lots) (fill order lots) (gone order))

met_lots-base : (t : TakerTerms) (order : Order) (lots coin : ℕ) → met_lots t order lots * coin ≡ cond (is_own t.owner order) 0 (lots * coin)
met_lots-base t order lots coin =
    ⊎_elim (λ (own : is_own t.owner order ≡ true). rw own (omega arith)) (λ (other : is_own t.owner order ≡ false). rw other refl) (cases_Bool (is_own t.owner order))

-- base: what makers gain or pay of it is that of the lots that filled
gained-coin : (t : TakerTerms) (w : Demand) (orders : List Order) → (meet Ask t w orders).lots * t.sizes.coin ≡ total (gained Coin) (meet Ask t w orders).events
gained-coin t =
    meet-amount Ask t (λ met. met.lots * t.sizes.coin) (λ order lots. met_lots t order lots * t.sizes.coin) (gained Coin)
    (λ w left. omega arith) (λ order lots rest. add-mul (met_lots t order lots) rest.lots t.sizes.coin)
    (λ order lots within. met_lots-base t order lots t.sizes.coin ∙ told-once Ask t (gained Coin) order lots (lots * t.sizes.coin) refl refl refl)

leaving-coin : (t : TakerTerms) (w : Demand) (orders : List Order) → (meet Bid t w orders).lots * t.sizes.coin ≡ total (leaving Coin) (meet Bid t w orders).events
leaving-coin t =
    meet-amount Bid t (λ met. met.lots * t.sizes.coin) (λ order lots. met_lots t order lots * t.sizes.coin) (leaving Coin)
    (λ w left. omega arith) (λ order lots rest. add-mul (met_lots t order lots) rest.lots t.sizes.coin)
    (λ order lots within. met_lots-base t order lots t.sizes.coin ∙ told-once Bid t (leaving Coin) order lots (lots * t.sizes.coin) refl refl refl)

-- quote: asks gain it with the rebates, bids pay it less them
both-parts : (own : Bool) (pc rebate : ℕ) → cond own 0 pc + cond own 0 rebate ≡ cond own 0 (pc + rebate)
both-parts true pc rebate = refl
both-parts false pc rebate = refl

gained-pc : (t : TakerTerms) (w : Demand) (orders : List Order) → (meet Bid t w orders).pc + (meet Bid t w orders).rebates ≡ total (gained Pc) (meet Bid t w orders).events
gained-pc t =
    meet-amount Bid t (λ met. met.pc + met.rebates) (λ order lots. met_pc t order lots + met_rebate t order lots) (gained Pc)
    (λ w left. refl) (λ order lots rest. omega arith)
    (λ order lots within. both-parts (is_own t.owner order) (fill_pc t.sizes order lots) (fill_rebate t order lots)
    ∙ told-once Bid t (gained Pc) order lots (fill_pc t.sizes order lots + fill_rebate t order lots) refl refl refl)

-- a bid that was filled gives up the quote of the fill, in what it pays and in its rebate
abbrev given : QueuedEvent → ℕ
given event = leaving Pc event + event.fee_or_rebate

given-fill : (t : TakerTerms) (order : Order) (lots : ℕ) → given (maker_fill Bid t order lots) ≡ fill_pc t.sizes order lots
given-fill t order lots = omega (arith, maker_rebate-le t.program (tier_at order.tier) (fill_pc t.sizes order lots))

given-total : (t : TakerTerms) (w : Demand) (orders : List Order) → (meet Ask t w orders).pc ≡ total given (meet Ask t w orders).events
given-total t =
    meet-amount Ask t (λ met. met.pc) (met_pc t) given (λ w left. refl) (λ order lots rest. refl)
    (λ order lots within. told-once Ask t given order lots (fill_pc t.sizes order lots) refl (given-fill t order lots) refl)

rebates-total : (t : TakerTerms) (w : Demand) (orders : List Order) → (meet Ask t w orders).rebates ≡ total (λ (event : QueuedEvent). event.fee_or_rebate) (meet Ask t w orders).events
rebates-total t =
    meet-amount Ask t (λ met. met.rebates) (met_rebate t) (λ event. event.fee_or_rebate) (λ w left. refl) (λ order lots rest. refl)
    (λ order lots within. told-once Ask t (λ event. event.fee_or_rebate) order lots (fill_rebate t order lots) refl refl refl)

leaving-pc : (t : TakerTerms) (w : Demand) (orders : List Order) → total (leaving Pc) (meet Ask t w orders).events + (meet Ask t w orders).rebates ≡ (meet Ask t w orders).pc
leaving-pc t w orders =
    omega (arith, given-total t w orders, rebates-total t w orders, total-plus (leaving Pc) (λ (event : QueuedEvent). event.fee_or_rebate) (meet Ask t w orders).events)

-- what no event of a meeting moves: a bid's makers pay no quote and gain no base, an ask's pay no base and gain no
-- quote
no-leaving-pc : (t : TakerTerms) (w : Demand) (orders : List Order) → 0 ≡ total (leaving Pc) (meet Bid t w orders).events
no-leaving-pc t = told-never Bid t (leaving Pc) (λ order lots. refl) (λ order lots. refl) (λ order. refl)

no-gained-coin : (t : TakerTerms) (w : Demand) (orders : List Order) → 0 ≡ total (gained Coin) (meet Bid t w orders).events
no-gained-coin t = told-never Bid t (gained Coin) (λ order lots. refl) (λ order lots. refl) (λ order. refl)

no-leaving-coin : (t : TakerTerms) (w : Demand) (orders : List Order) → 0 ≡ total (leaving Coin) (meet Ask t w orders).events
no-leaving-coin t = told-never Ask t (leaving Coin) (λ order lots. refl) (λ order lots. refl) (λ order. refl)

no-gained-pc : (t : TakerTerms) (w : Demand) (orders : List Order) → 0 ≡ total (gained Pc) (meet Ask t w orders).events
no-gained-pc t = told-never Ask t (gained Pc) (λ order lots. refl) (λ order lots. refl) (λ order. refl)

-- what the makers' fills of a meeting are still to take off totals: of asks base, of bids quote less the rebates
pub meet-leaving : (side : Side) (t : TakerTerms) (w : Demand) (orders : List Order) (token : Token)
    → total (leaving token) (meet side t w orders).events
    ≡ by_token token (by_side side ((meet side t w orders).lots * t.sizes.coin) 0) (by_side side 0 ((meet side t w orders).pc - (meet side t w orders).rebates))
meet-leaving Bid t w orders Coin = omega (arith, leaving-coin t w orders)
meet-leaving Bid t w orders Pc = omega (arith, no-leaving-pc t w orders)
meet-leaving Ask t w orders Coin = omega (arith, no-leaving-coin t w orders)
meet-leaving Ask t w orders Pc = omega (arith, leaving-pc t w orders)

-- taker and makers pay what they get and what is withheld, for any fee that covers the rebates and is part of the quote
pub meet-balanced : (side : Side) (t : TakerTerms) (w : Demand) (orders : List Order) (fee : ℕ)
    → (meet side t w orders).rebates ≤ fee → fee ≤ (meet side t w orders).pc → (token : Token) → IsBalanced side t.sizes (meet side t w orders) fee token
meet-balanced Bid t w orders fee covers part Coin = omega (arith, leaving-coin t w orders, no-gained-coin t w orders)
meet-balanced Bid t w orders fee covers part Pc = omega (arith, gained-pc t w orders, no-leaving-pc t w orders, covers)
meet-balanced Ask t w orders fee covers part Coin = omega (arith, gained-coin t w orders, no-leaving-coin t w orders)
meet-balanced Ask t w orders fee covers part Pc = omega (arith, leaving-pc t w orders, no-gained-pc t w orders, covers, part)

-- the fee covers the rebates
rebates-covered : (side : Side) (t : TakerTerms) (w : Demand) (orders : List Order) (tier : Tier)
    → referrer_part (taker_fee t.program tier (meet side t w orders).pc) + (meet side t w orders).rebates ≤ taker_fee t.program tier (meet side t w orders).pc
rebates-covered side t w orders tier = fee-covers t.program tier (meet side t w orders).pc (meet side t w orders).rebates (meet-rebates side t w orders)

pub order-balanced : (side : Side) (sizes : Lots) (n : NewOrder) (opposing : List Order) (token : Token)
    → IsBalanced side sizes (meet side (terms_of sizes n) (demand_of side sizes n) opposing) (fee_of n (meet side (terms_of sizes n) (demand_of side sizes n) opposing)) token
order-balanced side sizes n opposing token =
    let covered : referrer_part (taker_fee n.program n.tier (meet side (terms_of sizes n) (demand_of side sizes n) opposing).pc) + (meet side (terms_of sizes n) (demand_of side sizes n) opposing).rebates
    ≤ taker_fee n.program n.tier (meet side (terms_of sizes n) (demand_of side sizes n) opposing).pc =
    rebates-covered side (terms_of sizes n) (demand_of side sizes n) opposing n.tier in
    meet-balanced side (terms_of sizes n) (demand_of side sizes n) opposing _ (omega (arith, covered)) (taker_fee-le n.program n.tier _) token

pub take-balanced : (side : Side) (sizes : Lots) (t : Take) (opposing : List Order) (token : Token)
    → IsBalanced side sizes (take_meeting side sizes t opposing) (take_fee t (take_meeting side sizes t opposing)) token
take-balanced side sizes t opposing token =
    let covered : referrer_part (taker_fee t.program t.tier (take_meeting side sizes t opposing).pc) + (take_meeting side sizes t opposing).rebates
    ≤ taker_fee t.program t.tier (take_meeting side sizes t opposing).pc =
    rebates-covered side (take_terms sizes t) (take_demand side sizes t) opposing t.tier in
    meet-balanced side (take_terms sizes t) (take_demand side sizes t) opposing _ (omega (arith, covered)) (taker_fee-le t.program t.tier _) token

pub fees-shared : (side : Side) (sizes : Lots) (n : NewOrder) (opposing : List Order)
    → fees_kept n (meet side (terms_of sizes n) (demand_of side sizes n) opposing) + referrer_part (fee_of n (meet side (terms_of sizes n) (demand_of side sizes n) opposing))
    ≡ fee_of n (meet side (terms_of sizes n) (demand_of side sizes n) opposing) - (meet side (terms_of sizes n) (demand_of side sizes n) opposing).rebates
fees-shared side sizes n opposing = omega (arith, rebates-covered side (terms_of sizes n) (demand_of side sizes n) opposing n.tier)

-- what an order and a take spend and get, by side
pub order-spends : (side : Side) (sizes : Lots) (n : NewOrder) (met : Meeting) → spent side sizes n met ≡ taker_pays side sizes met (fee_of n met) (locked_token side)
order-spends Bid sizes n met = refl
order-spends Ask sizes n met = refl

pub order-gets : (side : Side) (sizes : Lots) (n : NewOrder) (met : Meeting) → got side sizes n met ≡ taker_gets side sizes met (fee_of n met) (gained_token side)
order-gets Bid sizes n met = refl
order-gets Ask sizes n met = refl

pub take-pays : (side : Side) (sizes : Lots) (t : Take) (met : Meeting) → take_paid side sizes t met ≡ taker_pays side sizes met (take_fee t met) (locked_token side)
take-pays Bid sizes t met = refl
take-pays Ask sizes t met = refl

pub take-gets : (side : Side) (sizes : Lots) (t : Take) (met : Meeting) → take_got side sizes t met ≡ taker_gets side sizes met (take_fee t met) (gained_token side)
take-gets Bid sizes t met = refl
take-gets Ask sizes t met = refl

-- a take pays no more than it may use
take-budget : (sizes : Lots) (t : Take) → take_budget Bid sizes t * sizes.pc ≤ spendable t.program t.tier t.max_pc
take-budget sizes t =
    rw (mul_comm (spendable t.program t.tier t.max_pc / sizes.pc) sizes.pc) (mul-div-le (spendable t.program t.tier t.max_pc) sizes.pc)

pub take-within : (side : Side) (sizes : Lots) (t : Take) (opposing : List Order) → take_paid side sizes t (take_meeting side sizes t opposing) ≤ take_lock side sizes t
take-within Bid sizes t opposing =
    meet-spendable t.program t.tier t.max_pc (take_terms sizes t) (take_demand Bid sizes t) opposing (take-budget sizes t)
take-within Ask sizes t opposing =
    mul-le-mul_right sizes.coin (omega (arith, meet-lots Ask (take_terms sizes t) (take_demand Ask sizes t) opposing))

-- What was decided, by the public calls, may be done.
use Rattle.std.proofs.Common.{◌≡◌, ℕ, List, Option, None, Some, Result, Ok, Err, is_some, refl, sym, ap, ◌∙◌, subst}
use Rattle.std.specs.Prelude.{IfOk}
use Rattle.dex_types.specs.declared.addresses.Address.{Address}
use Rattle.dex_types.specs.declared.refusals.Refusal.{Refusal}
use Rattle.dex_types.specs.declared.rows.Seen.{Seen}
use Rattle.dex_types.specs.Accounts.{PlainMarketAccounts}
use Rattle.dex_types.specs.Reasons.{answered}
use Rattle.dex_types.specs.Settle.{settlement}
use Rattle.dex_types.specs.Trader.{Account}
use Rattle.dex_accounts.specs.Decoded.{AreSound}
use Rattle.dex_accounts.specs.Parts.{HasOpen, parts_of}
use Rattle.dex_decide.proofs.PartLaws.{sound-parts}
use Rattle.dex_market.specs.MarketAccount.{MarketTerms}
use Rattle.dex_match.specs.declared.order_plan.OrderPlan.{OrderPlan}
use Rattle.dex_match.specs.declared.order_terms.Taker.{Taker}
use Rattle.dex_match.specs.LentParts.{decided_in}
use Rattle.dex_match.specs.OrderParts.{OrderGiven}
use Rattle.dex_match.specs.OrderParts as orders
use Rattle.dex_match.specs.Ordering as ordering
use Rattle.dex_match.specs.OrderTerms.{order_of}
use Rattle.dex_settle.specs.declared.plan.SettlePlan.{SettlePlan}
use Rattle.dex_settle.specs.PayingOut.{PaysOut, plan_of}
use Rattle.dex_settle.specs.Refusing.{settle_answer, settle_reason}
use Rattle.dex_settle.specs.SettleGiven as settling
use Rattle.dex_settle.proofs.PayLaws.{pays-out_all}
use Rattle.dex_take.specs.declared.plan.TakePlan.{TakePlan}
use Rattle.dex_take.specs.TakeGiven.{TakeRead}
use Rattle.dex_take.specs.TakeTerms.{take_of}
use Rattle.dex_take.specs.Taking as taking

answered-ok : {X : Type 0} (found : Option Refusal) (meant plan : X) → Ok plan ≡ answered found meant → (found ≡ None) × (plan ≡ meant)
answered-ok None meant plan is = (refl, (cc))
answered-ok (Some why) meant plan is = absurd (cc)

pub order-decided : (taker : Taker) (given : OrderGiven) (balance : ℕ) (result : Result OrderPlan Refusal) → result ≡ decided_in taker given balance
    → IfOk result (λ plan. ordering.IsDecided plan taker.id_side (order_of taker) (orders.parts_of given))
order-decided taker given balance (Err why) is = tt
order-decided taker given balance (Ok plan) is =
    let told = answered-ok (ordering.order_reason taker.id_side (order_of taker) (orders.parts_of given) balance) _ plan is in
    record { balance = balance; accepted = told.0; planned = told.1 }

pub take-decided : (taker : Taker) (read : TakeRead) (min_lots min_pc : ℕ) (seen : Seen) (plan : TakePlan)
    → Ok plan ≡ taking.take_answer taker.id_side (take_of taker min_lots min_pc) read seen → taking.IsDecided plan taker read
take-decided taker read min_lots min_pc seen plan is =
    let told = answered-ok (taking.take_reason taker.id_side (take_of taker min_lots min_pc) read seen) _ plan is in
    record { min_lots = min_lots; min_pc = min_pc; seen = seen; accepted = told.0; planned = told.1 }

pub settle-decided : (terms : MarketTerms) (signer : Address) (seen : Seen) (account : Account) (plan : SettlePlan) → Ok plan ≡ settle_answer terms signer seen account
    → PaysOut plan account
settle-decided terms signer seen account plan is =
    let told = answered-ok (settle_reason terms signer seen account) (plan_of (settlement (is_some seen.referrer) account)) plan is in
    subst (λ (p : SettlePlan). PaysOut p account) (sym told.1) (pays-out_all (is_some seen.referrer) account)

-- settling of an account that is open on a sound market
pub settle-can : (accounts : PlainMarketAccounts) (owner : Address) (held : List ℕ) → AreSound accounts → HasOpen owner held (parts_of accounts)
    → settling.IsOfSound (settling.given accounts.market held)
settle-can accounts owner held sound has =
    record { owner = owner; whole = parts_of accounts; sound = sound-parts accounts sound; has = has; is = refl }

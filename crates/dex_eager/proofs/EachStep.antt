-- each step that is not refused does what it does on the eager market
use Rattle.std.proofs.Common.{ℕ, ◌≡◌, ◌||◌, Bool, true, false, ltb, List, [], ◌∷◌, map, Option, Some, None, Result, Ok, Err, is_some, take, refl, sym, ap, ◌∙◌, subst, arith}
use Rattle.std.proofs.lemmas.Bool.{cond-true, ltb-false}
use Rattle.dex_types.specs.declared.addresses.Address.{Address}
use Rattle.dex_types.specs.declared.instructions.BadData.{BadData}
use Rattle.dex_types.specs.declared.instructions.Ix.{Ix}
use Rattle.dex_types.specs.declared.instructions.Ix.TheVariants.{InitializeMarket, MatchOrders, ConsumeEvents, SettleFunds, DisableMarket, SweepFees, NewOrderV3, CancelOrderV2, CancelOrderByClientIdV2, SendTake, CloseOpenOrders, InitOpenOrders, Prune, CancelOrdersByClientIds}
use Rattle.dex_types.specs.declared.refusals.Refusal.{Refusal}
use Rattle.dex_types.specs.declared.rows.Seen.{Seen}
use Rattle.dex_types.specs.declared.terms.Side.{Side}
use Rattle.dex_types.specs.Cancel.{CancelBy, ById, ByClient, ByClients, First}
use Rattle.dex_types.specs.Market.{Market}
use Rattle.dex_types.specs.NewOrder.{NewOrder}
use Rattle.dex_types.specs.Payment.{consumable}
use Rattle.dex_types.specs.Reasons.{first_of, disabled, not_owner, not_authority, not_blank, not_empty}
use Rattle.dex_types.specs.Requests.{Request, Party, open_party, party_of}
use Rattle.dex_types.specs.Soundness.{IsSound}
use Rattle.dex_types.specs.Steps.{Step, step, by_party, act_order, act_cancel, act_settle, act_init, act_close, act, act_decoded, unless_refused}
use Rattle.dex_types.specs.Terms.{terms_order, terms_take}
use Rattle.dex_types.specs.Trader.{Trader, Open, Blank, Closed, Traders, trader_at}
use Rattle.dex_types.specs.Upkeep.{taken_slots, all_funds}
use Rattle.dex_types.specs.Why.{named_first, of_party, why_close, why_order, why_cancelled, why_cancel, why_prune, why_settle, why_decoded, why_instruction, why}
use Rattle.dex_laws.proofs.TraderLaws.{traders-induction, trader_at-there}
use Rattle.dex_sound.proofs.KeepLaws.{step-keeps}
use Rattle.dex_sound.proofs.OrderSoundReasons.{first_of-none, refused_where-none}
use Rattle.dex_sound.specs.Kept.{KeepsMarket}
use Rattle.dex_eager.specs.Eager.{EagerStep, eager_at, has_account, unchanged, by_account, eager_order, eager_cancel, eager_act, eager_decoded, eager_step}
use Rattle.dex_eager.specs.Histories.{IsPaidAs}
use Rattle.dex_eager.specs.Worth.{Worth, Ledger, worth_of}
use Rattle.dex_eager.proofs.CancelSteps.{cancelled-paid}
use Rattle.dex_eager.proofs.CrankSteps.{consumed-still}
use Rattle.dex_eager.proofs.FundSteps.{IsParty, party-is, settled-still, swept-still, done-still, disabled-still, opened-still, closed-still}
use Rattle.dex_eager.proofs.OrderSteps.{ordered-paid}
use Rattle.dex_eager.proofs.TakeSteps.{taken-paid}

-- the eager market has the market's accounts
has-account : (worth : Address → Worth) (owner : Address) (trader : Trader) (traders : Traders) → trader_at owner traders ≡ Some trader
    → has_account owner (map (λ (entry : Address × Trader). (entry.0, worth entry.0)) traders) ≡ true
has-account worth owner trader =
    traders-induction owner (λ traders. trader_at owner traders ≡ Some trader → has_account owner (map (λ (entry : Address × Trader). (entry.0, worth entry.0)) traders) ≡ true)
    (λ found. absurd (cc))
    (λ entry others same found. rw same refl)
    (λ entry others apart rest found. rw apart (rest (sym (trader_at-there owner entry others apart) ∙ found)))

-- what a row's account does on the eager market
account-acts : (paid : Address → EagerStep) (m : Market) (ledger : Ledger) (named : List Address) (party : Party) → party_of named m.traders ≡ Some party
    → by_account paid (eager_at m ledger) named ≡ paid party.address
account-acts paid m ledger [] party is = absurd (cc)
account-acts paid m ledger (address ∷ others) party is =
    let found : IsParty (address ∷ others) m.traders party = party-is (address ∷ others) m.traders party is in
    let one : address ≡ party.address = named-first address (trader_at address m.traders) party is in
    cond-true _ _ _ (ap (λ a. has_account a (eager_at m ledger).worths) one ∙ has-account (λ a. worth_of a m ledger) party.address (Open party.account) m.traders found.found)
    ∙ ap paid one
  where
    named-first : (address : Address) (found : Option Trader) (party : Party) → open_party address found ≡ Some party → address ≡ party.address
    named-first address None party is = absurd (cc)
    named-first address (Some Blank) party is = absurd (cc)
    named-first address (Some Closed) party is = absurd (cc)
    named-first address (Some (Open account)) party is =
        let made : Party = record { address = address; account = account } in
        let one : made ≡ party = cc in
        ap (λ (p : Party). p.address) one

-- an instruction of an account, by what it does for the account that was found
party-paid : (m : Market) (ledger : Ledger) (named : List Address) (reason : Party → Option Refusal) (acts : Party → Step) (paid : EagerStep) (found : Option Party)
    → party_of named m.traders ≡ found → of_party reason found ≡ None → KeepsMarket m (by_party acts m found)
    → ((party : Party) → party_of named m.traders ≡ Some party → reason party ≡ None → KeepsMarket m (acts party) → IsPaidAs m ledger named (acts party) paid)
    → IsPaidAs m ledger named (by_party acts m found) paid
party-paid m ledger named reason acts paid None is none keeps each = absurd cc
party-paid m ledger named reason acts paid (Some party) is none keeps each = each party is none keeps

order-paid : (side : Side) (order : Address → NewOrder) (request : Request) (seen : Seen) (m : Market) (ledger : Ledger) → IsSound m
    → ((owner : Address) → (order owner).owner ≡ owner)
    → first_of (disabled m ∷ of_party (why_order side order request seen m) (party_of request.named m.traders) ∷ []) ≡ None
    → KeepsMarket m (by_party (act_order side order m) m (party_of request.named m.traders))
    → IsPaidAs m ledger request.named (by_party (act_order side order m) m (party_of request.named m.traders))
    (by_account (eager_order side order (eager_at m ledger)) (eager_at m ledger) request.named)
order-paid side order request seen m ledger sound owns none keeps =
    let parts = first_of-none (disabled m ∷ of_party (why_order side order request seen m) (party_of request.named m.traders) ∷ []) none in
    party-paid m ledger request.named (why_order side order request seen m) (act_order side order m) _ (party_of request.named m.traders) refl parts.1.0 keeps
    (λ party is reason kept.
    subst (IsPaidAs m ledger request.named (act_order side order m party)) (sym (account-acts (eager_order side order (eager_at m ledger)) m ledger request.named party is))
    (ordered-paid side order request seen m ledger request.named party sound (party-is request.named m.traders party is) (owns party.address) reason kept))

cancel-paid : (by : CancelBy) (reason : Party → Option Refusal) (request : Request) (m : Market) (ledger : Ledger) → IsSound m
    → ((party : Party) → reason party ≡ None → why_cancelled by party.address m ≡ None)
    → of_party reason (party_of request.named m.traders) ≡ None → KeepsMarket m (by_party (act_cancel by m) m (party_of request.named m.traders))
    → IsPaidAs m ledger request.named (by_party (act_cancel by m) m (party_of request.named m.traders)) (by_account (eager_cancel by (eager_at m ledger)) (eager_at m ledger) request.named)
cancel-paid by reason request m ledger sound names none keeps =
    party-paid m ledger request.named reason (act_cancel by m) _ (party_of request.named m.traders) refl none keeps
    (λ party is why kept.
    subst (IsPaidAs m ledger request.named (act_cancel by m party)) (sym (account-acts (eager_cancel by (eager_at m ledger)) m ledger request.named party is))
    (cancelled-paid by m ledger request.named party sound (names party why)))

owner-cancels : (by : CancelBy) (request : Request) (m : Market) (party : Party) → why_cancel by request m party ≡ None → why_cancelled by party.address m ≡ None
owner-cancels by request m party none =
    (first_of-none (not_owner request party.account ∷ why_cancelled by party.address m ∷ []) none).1.0

authority-cancels : (by : CancelBy) (request : Request) (m : Market) (party : Party) → why_prune by request m party ≡ None → why_cancelled by party.address m ≡ None
authority-cancels by request m party none =
    (first_of-none (not_authority request m ∷ why_cancelled by party.address m ∷ []) none).1.0

-- an account that may be closed has no funds
closes-empty : (request : Request) (party : Party) → why_close request party ≡ None → all_funds party.account ≡ 0
closes-empty request party none =
    let parts = first_of-none (not_owner request party.account ∷ not_empty party.account ∷ []) none in
    empty (ltb 0 (taken_slots party.account.slots)) (all_funds party.account) (refused_where-none _ _ parts.1.0)
  where
    empty : (slots : Bool) (funds : ℕ) → (slots || ltb 0 funds) ≡ false → funds ≡ 0
    empty true funds is = absurd cc
    empty false funds is = omega (arith, ltb-false 0 funds is)

-- one that may be opened is blank
opens-blank : (found : Option Trader) → not_blank found ≡ None → found ≡ Some Blank
opens-blank None none = absurd cc
opens-blank (Some Blank) none = refl
opens-blank (Some Closed) none = absurd cc
opens-blank (Some (Open account)) none = absurd cc

init-paid : (named : List Address) (signer : Address) (m : Market) (ledger : Ledger) → not_blank (named_first named m.traders) ≡ None → KeepsMarket m (act_init named signer m)
    → IsPaidAs m ledger named (act_init named signer m) (unchanged (eager_at m ledger))
init-paid [] signer m ledger none keeps = absurd cc
init-paid (address ∷ others) signer m ledger none keeps =
    opened-still m ledger (address ∷ others) address signer (opens-blank (trader_at address m.traders) none) keeps

act-paid : (ix : Ix) (request : Request) (seen : Seen) (m : Market) (ledger : Ledger) → IsSound m → why_instruction ix request seen m ≡ None
    → KeepsMarket m (act ix request seen m) → IsPaidAs m ledger request.named (act ix request seen m) (eager_act ix request seen (eager_at m ledger))
act-paid (InitializeMarket coin_lot pc_lot fee_rate_bps nonce dust) request seen m ledger sound none keeps = absurd cc
act-paid (MatchOrders limit) request seen m ledger sound none keeps = done-still m ledger request.named keeps
act-paid (ConsumeEvents limit) request seen m ledger sound none keeps =
    consumed-still m ledger request.named (consumable limit request.named m.events) sound keeps
act-paid SettleFunds request seen m ledger sound none keeps =
    party-paid m ledger request.named (why_settle request seen m) (act_settle seen m) _ (party_of request.named m.traders) refl none keeps
    (λ party is why kept. settled-still m ledger request.named party (is_some seen.referrer) sound (party-is request.named m.traders party is) kept)
act-paid DisableMarket request seen m ledger sound none keeps = disabled-still m ledger request.named keeps
act-paid SweepFees request seen m ledger sound none keeps = swept-still m ledger request.named keeps
act-paid (NewOrderV3 side price lots max_pc self_trade order_type client limit latest) request seen m ledger sound none keeps =
    order-paid side (terms_order request seen price lots max_pc self_trade order_type client limit latest) request seen m ledger sound (λ owner. refl) none keeps
act-paid (CancelOrderV2 side id) request seen m ledger sound none keeps =
    cancel-paid (ById side id) (why_cancel (ById side id) request m) request m ledger sound (owner-cancels (ById side id) request m) none keeps
act-paid (CancelOrderByClientIdV2 client) request seen m ledger sound none keeps =
    cancel-paid (ByClient client) (why_cancel (ByClient client) request m) request m ledger sound (owner-cancels (ByClient client) request m) none keeps
act-paid (SendTake side price lots max_pc min_lots min_pc limit) request seen m ledger sound none keeps =
    taken-paid side (terms_take seen price lots max_pc min_lots min_pc limit) request seen m ledger request.named sound none keeps
act-paid CloseOpenOrders request seen m ledger sound none keeps =
    party-paid m ledger request.named (why_close request) (act_close m) _ (party_of request.named m.traders) refl none keeps
    (λ party is why kept. closed-still m ledger request.named party sound (party-is request.named m.traders party is) (closes-empty request party why) kept)
act-paid InitOpenOrders request seen m ledger sound none keeps =
    let parts = first_of-none (disabled m ∷ not_blank (named_first request.named m.traders) ∷ []) none in
    init-paid request.named request.signer m ledger parts.1.0 keeps
act-paid (Prune limit) request seen m ledger sound none keeps =
    cancel-paid (First limit) (why_prune (First limit) request m) request m ledger sound (authority-cancels (First limit) request m) none keeps
act-paid (CancelOrdersByClientIds ids) request seen m ledger sound none keeps =
    let by : CancelBy = ByClients (take ids.count ids.ids) in
    cancel-paid by (why_cancel by request m) request m ledger sound (owner-cancels by request m) none keeps

decoded-paid : (instruction : Result Ix BadData) (request : Request) (seen : Seen) (m : Market) (ledger : Ledger) → IsSound m → why_decoded instruction request seen m ≡ None
    → KeepsMarket m (act_decoded instruction request seen m)
    → IsPaidAs m ledger request.named (act_decoded instruction request seen m) (eager_decoded instruction request seen (eager_at m ledger))
decoded-paid (Err rule) request seen m ledger sound none keeps = absurd cc
decoded-paid (Ok ix) request seen m ledger sound none keeps = act-paid ix request seen m ledger sound none keeps

-- a step that is not refused is the eager step
pub step-paid : (request : Request) (seen : Seen) (m : Market) (ledger : Ledger) → IsSound m → why request seen m ≡ None
    → IsPaidAs m ledger request.named (step request seen m) (eager_step request seen (eager_at m ledger))
step-paid request seen m ledger sound none =
    let acted : Step = act_decoded request.instruction request seen m in
    let is : step request seen m ≡ acted = ap (λ reason. unless_refused reason m acted) none in
    subst (λ s. IsPaidAs m ledger request.named s (eager_step request seen (eager_at m ledger))) (sym is)
    (decoded-paid request.instruction request seen m ledger sound none (subst (KeepsMarket m) is (step-keeps request seen m)))

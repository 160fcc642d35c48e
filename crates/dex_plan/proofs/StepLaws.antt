-- What a plan tells is what the step of its row does.
use Rattle.std.proofs.Common.{◌≡◌, List, [], ◌∷◌, Option, Some, None, Result, Ok, Err, refl, sym, ap, ◌∙◌}
use Rattle.dex_types.specs.declared.addresses.Address.{Address}
use Rattle.dex_types.specs.declared.instructions.BadData.{BadData}
use Rattle.dex_types.specs.declared.instructions.Ix.{Ix}
use Rattle.dex_types.specs.declared.instructions.Ix.TheVariants.{InitializeMarket, MatchOrders, ConsumeEvents, SettleFunds, DisableMarket, SweepFees, NewOrderV3, CancelOrderV2, CancelOrderByClientIdV2, SendTake, CloseOpenOrders, InitOpenOrders, Prune, CancelOrdersByClientIds}
use Rattle.dex_types.specs.declared.refusals.Refusal.{Refusal}
use Rattle.dex_types.specs.declared.rows.Seen.{Seen}
use Rattle.dex_types.specs.declared.terms.Side.{Side}
use Rattle.dex_types.specs.Market.{Market}
use Rattle.dex_types.specs.NewOrder.{NewOrder}
use Rattle.dex_types.specs.Reasons.{answered}
use Rattle.dex_types.specs.Requests.{Party, Request, party_of}
use Rattle.dex_types.specs.Steps as steps
use Rattle.dex_types.specs.Steps.{Step, act, act_decoded, act_init, act_order, act_settle, refused, step, unless_refused}
use Rattle.dex_types.specs.Terms.{terms_order}
use Rattle.dex_types.specs.Transfers.{no_transfers}
use Rattle.dex_types.specs.Why.{why}
use Rattle.dex_ring.specs.declared.pending_fills.PendingFills.{PendingFills}
use Rattle.dex_ring.specs.PendingFills.{pending_fills_of}
use Rattle.dex_plan.specs.declared.plan.Plan.{Plan}
use Rattle.dex_plan.specs.Owing.{plan_transfers, sums_told}
use Rattle.dex_plan.specs.Plans.{by_party, decided, order_plan, plan_decoded, plan_on, settle_plan}

-- what is answered tells the reason, and where there is none, what is planned
pub told-reason : {X : Type 0} (reason : Option Refusal) (x : X) (refusal : Refusal) → answered reason x ≡ Err refusal → reason ≡ Some refusal
told-reason None x refusal e = absurd (cc)
told-reason (Some given) x refusal e = let same : given ≡ refusal = cc in ap (λ r. Some r) same

pub told-none : {X : Type 0} (reason : Option Refusal) (x y : X) → answered reason x ≡ Ok y → reason ≡ None
told-none None x y e = refl
told-none (Some given) x y e = absurd (cc)

pub told-plan : {X : Type 0} (reason : Option Refusal) (x y : X) → answered reason x ≡ Ok y → x ≡ y
told-plan None x y e = cc
told-plan (Some given) x y e = absurd (cc)

-- where nothing moves for a party, nothing moves without one
still : (acts : Party → Step) (m : Market) (party : Option Party) → ((found : Party) → no_transfers ≡ (acts found).transfers)
    → no_transfers ≡ (steps.by_party acts m party).transfers
still acts m None each = refl
still acts m (Some found) each = each found

settles : (seen : Seen) (m : Market) (party : Option Party)
    → plan_transfers (by_party (settle_plan seen) party) ≡ (steps.by_party (act_settle seen m) m party).transfers
settles seen m None = refl
settles seen m (Some party) = refl

orders : (side : Side) (order : Address → NewOrder) (m : Market) (party : Option Party)
    → plan_transfers (by_party (order_plan side order m) party) ≡ (steps.by_party (act_order side order m) m party).transfers
orders side order m None = refl
orders side order m (Some party) = refl

opens : (named : List Address) (signer : Address) (m : Market) → no_transfers ≡ (act_init named signer m).transfers
opens [] signer m = refl
opens (address ∷ others) signer m = refl

on-ix : (ix : Ix) (request : Request) (seen : Seen) (m : Market) → plan_transfers (plan_on ix request seen m) ≡ (act ix request seen m).transfers
on-ix (InitializeMarket coin_lot pc_lot fee_rate_bps nonce dust) request seen m = refl
on-ix (MatchOrders limit) request seen m = refl
on-ix (ConsumeEvents limit) request seen m = refl
on-ix SettleFunds request seen m = settles seen m (party_of request.named m.traders)
on-ix DisableMarket request seen m = refl
on-ix SweepFees request seen m = refl
on-ix (NewOrderV3 side price lots max_pc self_trade order_type client limit latest) request seen m =
    orders side (terms_order request seen price lots max_pc self_trade order_type client limit latest) m (party_of request.named m.traders)
on-ix (CancelOrderV2 side id) request seen m = still _ m (party_of request.named m.traders) (λ party. refl)
on-ix (CancelOrderByClientIdV2 client) request seen m = still _ m (party_of request.named m.traders) (λ party. refl)
on-ix (SendTake side price lots max_pc min_lots min_pc limit) request seen m = refl
on-ix CloseOpenOrders request seen m = still _ m (party_of request.named m.traders) (λ party. refl)
on-ix InitOpenOrders request seen m = opens request.named request.signer m
on-ix (Prune limit) request seen m = still _ m (party_of request.named m.traders) (λ party. refl)
on-ix (CancelOrdersByClientIds ids) request seen m = still _ m (party_of request.named m.traders) (λ party. refl)

-- what is planned moves what is done
pub plan-moves : (instruction : Result Ix BadData) (request : Request) (seen : Seen) (m : Market)
    → plan_transfers (plan_decoded instruction request seen m) ≡ (act_decoded instruction request seen m).transfers
plan-moves (Err rule) request seen m = refl
plan-moves (Ok ix) request seen m = on-ix ix request seen m

-- the sums that a plan tells, after the step
some-same : {X : Type 0} {x y : X} → Some x ≡ Some y → y ≡ x
some-same e = cc

settle-sums : (seen : Seen) (m : Market) (party : Option Party) (sums : PendingFills) → sums_told (by_party (settle_plan seen) party) ≡ Some sums
    → sums ≡ pending_fills_of (steps.by_party (act_settle seen m) m party).market.events
settle-sums seen m None sums told = absurd (cc)
settle-sums seen m (Some party) sums told = absurd (cc)

order-sums : (side : Side) (order : Address → NewOrder) (m : Market) (party : Option Party) (sums : PendingFills) → sums_told (by_party (order_plan side order m) party) ≡ Some sums
    → sums ≡ pending_fills_of (steps.by_party (act_order side order m) m party).market.events
order-sums side order m None sums told = absurd (cc)
order-sums side order m (Some party) sums told = some-same told

pub plan-sums : (instruction : Result Ix BadData) (request : Request) (seen : Seen) (m : Market) (sums : PendingFills) → sums_told (plan_decoded instruction request seen m) ≡ Some sums
    → sums ≡ pending_fills_of (act_decoded instruction request seen m).market.events
plan-sums (Err rule) request seen m sums told = absurd (cc)
plan-sums (Ok (InitializeMarket coin_lot pc_lot fee_rate_bps nonce dust)) request seen m sums told = absurd (cc)
plan-sums (Ok (MatchOrders limit)) request seen m sums told = absurd (cc)
plan-sums (Ok (ConsumeEvents limit)) request seen m sums told = absurd (cc)
plan-sums (Ok SettleFunds) request seen m sums told = settle-sums seen m (party_of request.named m.traders) sums told
plan-sums (Ok DisableMarket) request seen m sums told = absurd (cc)
plan-sums (Ok SweepFees) request seen m sums told = absurd (cc)
plan-sums (Ok (NewOrderV3 side price lots max_pc self_trade order_type client limit latest)) request seen m sums told = order-sums side (terms_order request seen price lots max_pc self_trade order_type client limit latest) m (party_of request.named m.traders) sums told
plan-sums (Ok (CancelOrderV2 side id)) request seen m sums told = absurd (cc)
plan-sums (Ok (CancelOrderByClientIdV2 client)) request seen m sums told = absurd (cc)
plan-sums (Ok (SendTake side price lots max_pc min_lots min_pc limit)) request seen m sums told = some-same told
plan-sums (Ok CloseOpenOrders) request seen m sums told = absurd (cc)
plan-sums (Ok InitOpenOrders) request seen m sums told = absurd (cc)
plan-sums (Ok (Prune limit)) request seen m sums told = absurd (cc)
plan-sums (Ok (CancelOrdersByClientIds ids)) request seen m sums told = absurd (cc)

-- the step of a row that is decided
pub step-refused : (request : Request) (seen : Seen) (m : Market) (refusal : Refusal) → decided request seen m ≡ Err refusal → step request seen m ≡ refused refusal m
step-refused request seen m refusal told =
    ap (λ (r : Option Refusal). unless_refused r m (act_decoded request.instruction request seen m))
    (told-reason (why request seen m) (plan_decoded request.instruction request seen m) refusal told)

pub step-acted : (request : Request) (seen : Seen) (m : Market) (plan : Plan) → decided request seen m ≡ Ok plan
    → step request seen m ≡ act_decoded request.instruction request seen m
step-acted request seen m plan told =
    ap (λ (r : Option Refusal). unless_refused r m (act_decoded request.instruction request seen m))
    (told-none (why request seen m) (plan_decoded request.instruction request seen m) plan told)

-- a plan that was decided moves what its row's step moves
pub planned-moves : (plan : Plan) (request : Request) (seen : Seen) (m : Market) → Ok plan ≡ decided request seen m
    → plan_transfers plan ≡ (step request seen m).transfers
planned-moves plan request seen m is =
    sym (ap plan_transfers (told-plan (why request seen m) (plan_decoded request.instruction request seen m) plan (sym is)))
    ∙ plan-moves request.instruction request seen m
    ∙ ap (λ (s : Step). s.transfers) (sym (step-acted request seen m plan (sym is)))

-- every step keeps a market sound
use Rattle.std.proofs.Common.{◌≤◌, ◌≡◌, false, ltb, List, [], ◌∷◌, Option, Some, None, Result, Ok, Err, is_some, length, take, refl, sym, ap, ◌∙◌, arith}
use Rattle.std.proofs.lemmas.Bool.{or_parts, ltb-false}
use Rattle.dex_types.specs.declared.addresses.Address.{Address}
use Rattle.dex_types.specs.declared.instructions.BadData.{BadData}
use Rattle.dex_types.specs.declared.instructions.Ix.{Ix}
use Rattle.dex_types.specs.declared.instructions.Ix.TheVariants.{InitializeMarket, MatchOrders, ConsumeEvents, SettleFunds, DisableMarket, SweepFees, NewOrderV3, CancelOrderV2, CancelOrderByClientIdV2, SendTake, CloseOpenOrders, InitOpenOrders, Prune, CancelOrdersByClientIds}
use Rattle.dex_types.specs.declared.refusals.Refusal.{Refusal}
use Rattle.dex_types.specs.declared.rows.Seen.{Seen}
use Rattle.dex_types.specs.Cancel.{CancelBy, ById, ByClient, ByClients, First, cancelled, after_cancels}
use Rattle.dex_types.specs.Market.{Market}
use Rattle.dex_types.specs.NewOrder.{NewOrder}
use Rattle.dex_types.specs.Payment.{consumable}
use Rattle.dex_types.specs.Reasons.{disabled, not_blank, not_owner, not_authority, not_empty, queue_full}
use Rattle.dex_types.specs.Requests.{Request, Party, HasPrice, open_party, party_of}
use Rattle.dex_types.specs.Soundness.{IsSound}
use Rattle.dex_types.specs.Steps.{Step, step, by_party, act_order, act_cancel, act_settle, act_init, act_close, act, act_decoded, unless_refused}
use Rattle.dex_types.specs.Terms.{terms_order, terms_take}
use Rattle.dex_types.specs.Trader.{Trader, Open, Closed, Blank, Traders, trader_at}
use Rattle.dex_types.specs.Upkeep.{taken_slots, all_funds}
use Rattle.dex_types.specs.Why.{named_first, of_party, why_close, why_order, why_unnamed, why_cancelled, why_cancel, why_prune, why_instruction, why_decoded, why}
use Rattle.dex_sound.proofs.CancelledLaws.{cancelled-rests, cancelled-apart, cancels-sound}
use Rattle.dex_sound.proofs.CrankSound.{crank-sound}
use Rattle.dex_sound.proofs.OrderSoundReasons.{first_of-none, refused_where-none, queue_full-none}
use Rattle.dex_sound.proofs.OrderSound.{order-sound}
use Rattle.dex_sound.proofs.PlaceParts.{to-place, from-place}
use Rattle.dex_sound.proofs.TakeSound.{take-sound}
use Rattle.dex_sound.proofs.WordsSound.{settle-sound, sweep-sound, init-sound, close-sound, disable-sound}

-- the open account of a row is one of the market's
open-found : (address : Address) (found : Option Trader) (party : Party) → open_party address found ≡ Some party → (address ≡ party.address) × (found ≡ Some (Open party.account))
open-found address None party is = absurd (cc)
open-found address (Some Blank) party is = absurd (cc)
open-found address (Some Closed) party is = absurd (cc)
open-found address (Some (Open account)) party is =
    let named : Party = record { address = address; account = account } in
    let same : named ≡ party = cc in
    (ap (λ (p : Party). p.address) same, ap (λ (p : Party). Some (Open p.account)) same)

pub party-found : (named : List Address) (traders : Traders) (party : Party) → party_of named traders ≡ Some party → trader_at party.address traders ≡ Some (Open party.account)
party-found [] traders party is = absurd (cc)
party-found (address ∷ others) traders party is =
    let found : (address ≡ party.address) × (trader_at address traders ≡ Some (Open party.account)) = open-found address (trader_at address traders) party is in
    ap (λ a. trader_at a traders) (sym found.0) ∙ found.1

-- what an open account asks keeps the market sound where it does so for the account that is found
party-sound : (why : Party → Option Refusal) (acts : Party → Step) (m : Market) (party : Option Party)
    → ((found : Party) → party ≡ Some found → why found ≡ None → IsSound (acts found).market) → of_party why party ≡ None → IsSound (by_party acts m party).market
party-sound why acts m None each none = absurd (cc)
party-sound why acts m (Some found) each none = each found refl none

-- a cancel that is not refused
cancel-sound : (by : CancelBy) (owner : Address) (m : Market) → IsSound m → why_cancelled by owner m ≡ None → IsSound (after_cancels (cancelled by owner m.bids m.asks) m)
cancel-sound by owner m sound none =
    let gone = cancelled by owner m.bids m.asks in
    let parts = first_of-none (why_unnamed by owner m.bids m.asks gone ∷ queue_full (length gone) m ∷ []) none in
    from-place (after_cancels gone m)
    (cancels-sound gone m (cancelled-rests by owner m sound.form.in_order) (cancelled-apart by owner m sound.form.in_order)
    (queue_full-none (length gone) m parts.1.0 sound.form.events_within) (to-place m sound))

act_cancel-sound : (by : CancelBy) (request : Request) (m : Market) → IsSound m → of_party (why_cancel by request m) (party_of request.named m.traders) ≡ None
    → IsSound (by_party (act_cancel by m) m (party_of request.named m.traders)).market
act_cancel-sound by request m sound =
    party-sound (why_cancel by request m) (act_cancel by m) m (party_of request.named m.traders)
    (λ party found none. cancel-sound by party.address m sound (first_of-none (not_owner request party.account ∷ why_cancelled by party.address m ∷ []) none).1.0)

-- settling, opening and closing
act_settle-sound : (request : Request) (seen : Seen) (m : Market) (party : Party) → IsSound m → party_of request.named m.traders ≡ Some party → IsSound (act_settle seen m party).market
act_settle-sound request seen m party sound found =
    from-place (act_settle seen m party).market
    (settle-sound m party.address party.account (is_some seen.referrer) (party-found request.named m.traders party found) (to-place m sound))

not_blank-none : (found : Option Trader) → not_blank found ≡ None → found ≡ Some Blank
not_blank-none None none = absurd (cc)
not_blank-none (Some Blank) none = refl
not_blank-none (Some Closed) none = absurd (cc)
not_blank-none (Some (Open account)) none = absurd (cc)

act_init-sound : (named : List Address) (signer : Address) (m : Market) → IsSound m → not_blank (named_first named m.traders) ≡ None → IsSound (act_init named signer m).market
act_init-sound [] signer m sound none = sound
act_init-sound (address ∷ others) signer m sound none =
    from-place (act_init (address ∷ others) signer m).market (init-sound m address signer (not_blank-none (trader_at address m.traders) none) (to-place m sound))

act_close-sound : (request : Request) (m : Market) (party : Party) → IsSound m → party_of request.named m.traders ≡ Some party → why_close request party ≡ None
    → IsSound (act_close m party).market
act_close-sound request m party sound found none =
    let parts = first_of-none (not_owner request party.account ∷ not_empty party.account ∷ []) none in
    let empty : (ltb 0 (taken_slots party.account.slots) ≡ false) × (ltb 0 (all_funds party.account) ≡ false) =
    or_parts _ _ (refused_where-none _ _ parts.1.0) in
    let slots : taken_slots party.account.slots ≤ 0 = ltb-false 0 (taken_slots party.account.slots) empty.0 in
    let funds : all_funds party.account ≤ 0 = ltb-false 0 (all_funds party.account) empty.1 in
    from-place (act_close m party).market
    (close-sound m party.address party.account (party-found request.named m.traders party found) (omega arith) (omega arith) (to-place m sound))

-- what an instruction that is not refused does
act-sound : (ix : Ix) (request : Request) (seen : Seen) (m : Market) → IsSound m → HasPrice (Ok ix) → why_instruction ix request seen m ≡ None
    → IsSound (act ix request seen m).market
act-sound (InitializeMarket coin_lot pc_lot fee_rate_bps nonce dust) request seen m sound priced none = sound
act-sound (MatchOrders limit) request seen m sound priced none = sound
act-sound (ConsumeEvents limit) request seen m sound priced none =
    from-place (act (ConsumeEvents limit) request seen m).market (crank-sound (consumable limit request.named m.events) m (to-place m sound))
act-sound SettleFunds request seen m sound priced none =
    party-sound _ (act_settle seen m) m (party_of request.named m.traders) (λ party found why_not. act_settle-sound request seen m party sound found) none
act-sound DisableMarket request seen m sound priced none = from-place (act DisableMarket request seen m).market (disable-sound m (to-place m sound))
act-sound SweepFees request seen m sound priced none = from-place (act SweepFees request seen m).market (sweep-sound m (to-place m sound))
act-sound (NewOrderV3 side price lots max_pc self_trade order_type client limit latest) request seen m sound priced none =
    let order : Address → NewOrder = terms_order request seen price lots max_pc self_trade order_type client limit latest in
    party-sound (why_order side order request seen m) (act_order side order m) m (party_of request.named m.traders)
    (λ party found why_not. order-sound side (order party.address) request seen m party sound (party-found request.named m.traders party found) refl priced why_not)
    (first_of-none (disabled m ∷ of_party (why_order side order request seen m) (party_of request.named m.traders) ∷ []) none).1.0
act-sound (CancelOrderV2 side id) request seen m sound priced none = act_cancel-sound (ById side id) request m sound none
act-sound (CancelOrderByClientIdV2 client) request seen m sound priced none = act_cancel-sound (ByClient client) request m sound none
act-sound (SendTake side price lots max_pc min_lots min_pc limit) request seen m sound priced none =
    take-sound side (terms_take seen price lots max_pc min_lots min_pc limit) request seen m sound none
act-sound CloseOpenOrders request seen m sound priced none =
    party-sound (why_close request) (act_close m) m (party_of request.named m.traders) (λ party found why_not. act_close-sound request m party sound found why_not) none
act-sound InitOpenOrders request seen m sound priced none =
    act_init-sound request.named request.signer m sound (first_of-none (disabled m ∷ not_blank (named_first request.named m.traders) ∷ []) none).1.0
act-sound (Prune limit) request seen m sound priced none =
    party-sound (why_prune (First limit) request m) (act_cancel (First limit) m) m (party_of request.named m.traders)
    (λ party found why_not. cancel-sound (First limit) party.address m sound (first_of-none (not_authority request m ∷ why_cancelled (First limit) party.address m ∷ []) why_not).1.0) none
act-sound (CancelOrdersByClientIds ids) request seen m sound priced none = act_cancel-sound (ByClients (take ids.count ids.ids)) request m sound none

decoded-sound : (instruction : Result Ix BadData) (request : Request) (seen : Seen) (m : Market) → IsSound m → HasPrice instruction
    → why_decoded instruction request seen m ≡ None → IsSound (act_decoded instruction request seen m).market
decoded-sound (Err rule) request seen m sound priced none = sound
decoded-sound (Ok ix) request seen m sound priced none = act-sound ix request seen m sound priced none

unless-sound : (reason : Option Refusal) (m : Market) (acted : Step) → IsSound m → (reason ≡ None → IsSound acted.market) → IsSound (unless_refused reason m acted).market
unless-sound None m acted sound acts = acts refl
unless-sound (Some refusal) m acted sound acts = sound

pub step-sound : (request : Request) (seen : Seen) (m : Market) → IsSound m → HasPrice request.instruction → IsSound (step request seen m).market
step-sound request seen m sound priced =
    unless-sound (why request seen m) m (act_decoded request.instruction request seen m) sound
    (decoded-sound request.instruction request seen m sound priced)

-- What is decided of a row says what its plan needs, and what its step is.
use Rattle.std.proofs.Common.{◌≡◌, ℕ, ◌≤◌, ℤ, Bool, true, false, arith, List, [], ◌∷◌, Option, Some, None, Result, Ok, Err, is_some, take, refl, sym, ap, ◌∙◌, subst}
use Rattle.dex_types.specs.declared.addresses.Address.{Address}
use Rattle.dex_types.specs.declared.instructions.BadData.{BadData}
use Rattle.dex_types.specs.declared.instructions.Ix.{Ix}
use Rattle.dex_types.specs.declared.instructions.Ix.TheVariants.{InitializeMarket, MatchOrders, ConsumeEvents, SettleFunds, DisableMarket, SweepFees, NewOrderV3, CancelOrderV2, CancelOrderByClientIdV2, SendTake, CloseOpenOrders, InitOpenOrders, Prune, CancelOrdersByClientIds}
use Rattle.dex_types.specs.declared.refusals.Refusal.{Refusal}
use Rattle.dex_types.specs.declared.rows.Seen.{Seen}
use Rattle.dex_types.specs.declared.rows.WalletSeen.{WalletSeen}
use Rattle.dex_types.specs.declared.terms.OrderType.{OrderType}
use Rattle.dex_types.specs.declared.terms.SelfTrade.{SelfTrade}
use Rattle.dex_types.specs.declared.terms.Side.{Side}
use Rattle.dex_types.specs.declared.terms.Side.TheVariants.{Bid, Ask}
use Rattle.dex_types.specs.Cancel.{CancelBy, ByClient, ByClients, ById, First}
use Rattle.dex_types.specs.Market.{Market}
use Rattle.dex_types.specs.NewOrder.{NewOrder, order_on}
use Rattle.dex_types.specs.Reasons.{answered, disabled, first_of, missing, not_authority, not_blank, not_empty, not_owner, not_person, when_disabled}
use Rattle.dex_types.specs.Requests.{HasPrice, Party, Request, open_party, party_of}
use Rattle.dex_types.specs.Soundness.{IsSound}
use Rattle.dex_types.specs.Steps.{Step, act, act_cancel, act_close, act_decoded, act_init, act_order, act_settle, act_take, by_party, ordered, settled, step, unless_refused}
use Rattle.dex_types.specs.Settle.{settlement}
use Rattle.dex_types.specs.Take.{Take}
use Rattle.dex_types.specs.Terms.{terms_order, terms_take}
use Rattle.dex_types.specs.Trader.{Account, Blank, Closed, Open, Trader, Traders, trader_at}
use Rattle.dex_types.specs.Why.{of_party, payer, why, why_cancel, why_cancelled, why_decoded, why_instruction, why_order, why_order_early, why_ordering, why_close, why_init, why_prune, why_settle, why_take, named_first, order_reading}
use Rattle.dex_cancel.specs.declared.what.CancelWhat.{CancelWhat}
use Rattle.dex_cancel.specs.declared.what.CancelWhat.TheVariants as cancels
use Rattle.dex_cancel.specs.Cancelling.{named_by}
use Rattle.dex_sound.proofs.OrderSoundReasons.{first_of-none, order-none, take-none}
use Rattle.dex_sound.proofs.StepSound.{party-found, step-sound}
use Rattle.dex_match.specs.declared.order_terms.Taker.{Taker}
use Rattle.dex_ring.specs.PendingFills.{pending_fills_of}
use Rattle.dex_take.specs.TakeTerms.{bare_take, take_of}
use Rattle.dex_plan.specs.declared.plan.Plan.{Plan}
use Rattle.dex_plan.specs.declared.plan.Plan.TheVariants as plans
use Rattle.dex_plan.specs.Plans as planning
use Rattle.dex_settle.specs.declared.plan.SettlePlan.{SettlePlan}
use Rattle.dex_settle.specs.PayingOut.{PaysOut, plan_of, settlement_by}
use Rattle.dex_step.specs.CancelActs.{cancel_step}
use Rattle.dex_step.specs.FundActs.{IsInitDecided, close_step, init_step, settle_step}
use Rattle.dex_step.specs.OrderRows.{order_step}
use Rattle.dex_step.specs.TakeRows.{take_step}
use Rattle.dex_step.specs.Planned.{IsPlanned, OfFirst}

-- what is answered Ok was not refused
answered-ok : {X : Type 0} (reason : Option Refusal) (x y : X) → Ok y ≡ answered reason x → (reason ≡ None) × (y ≡ x)
answered-ok None x y is = (refl, cc)
answered-ok (Some refusal) x y is = absurd (cc)

-- an open account acts, where the row is not refused for want of one
record HasParty (reason : Party → Option Refusal) (party : Option Party) : Type 0 where
  pub acting : Party
  pub is : party ≡ Some acting
  pub none : reason acting ≡ None

of-party : (reason : Party → Option Refusal) (party : Option Party) → of_party reason party ≡ None → HasParty reason party
of-party reason None none = absurd (cc)
of-party reason (Some acting) none = record { acting = acting; is = refl; none = none }

-- it is the one that is named first
at-first : (address : Address) (trader : Option Trader) (party : Party) → open_party address trader ≡ Some party → address ≡ party.address
at-first address None party is = absurd (cc)
at-first address (Some Blank) party is = absurd (cc)
at-first address (Some Closed) party is = absurd (cc)
at-first address (Some (Open account)) party is =
    let here : Party = record { address = address; account = account } in
    let same : here ≡ party = cc in
    ap (λ (p : Party). p.address) same

of-first : (named : List Address) (traders : Traders) (party : Party) (P : Address → Type 0) → party_of named traders ≡ Some party → P party.address → OfFirst named P
of-first [] traders party P is holds = absurd (cc)
of-first (address ∷ others) traders party P is holds =
    record { address = party.address; others = others; is = ap (λ a. a ∷ others) (at-first address (trader_at address traders) party is); holds = holds }

-- a wallet that is not missing is seen
record Pays (role : Option WalletSeen) : Type 0 where
  pub wallet : WalletSeen
  pub is : role ≡ Some wallet

not-missing : (role : Option WalletSeen) → missing role ≡ None → Pays role
not-missing None none = absurd (cc)
not-missing (Some wallet) none = record { wallet = wallet; is = refl }

-- ---- a new order

-- what holds of what an open account is to do, holds of what the row is to do, where it is the one that is named first
by-found : (plan : Party → Plan) (acts : Party → Step) (request : Request) (m : Market) (acting : Party) → party_of request.named m.traders ≡ Some acting
    → IsPlanned (plan acting) request m (acts acting)
    → IsPlanned (planning.by_party plan (party_of request.named m.traders)) request m (by_party acts m (party_of request.named m.traders))
by-found plan acts request m acting is holds =
    subst (λ (p : Option Party). IsPlanned (planning.by_party plan p) request m (by_party acts m p)) (sym is) holds

module _ (side : Side) (request : Request) (seen : Seen) (price lots max_pc : ℕ) (self_trade : SelfTrade) (order_type : OrderType) (client limit : ℕ) (latest : Option ℤ)
    (m : Market) where
  abbrev order : Address → NewOrder
  order = terms_order request seen price lots max_pc self_trade order_type client limit latest

  order-at : (acting : Party) → trader_at acting.address m.traders ≡ Some (Open acting.account)
      → order_step (planning.taker_of side (order acting.address)) m ≡ act_order side order m acting
  order-at acting known =
      ap (λ (t : Option Trader).
      by_party (λ party. ordered side (order acting.address) m party (order_on side m party.account (order acting.address))) m (open_party acting.address t)) known

  order-planned-at : (acting : Party) → trader_at acting.address m.traders ≡ Some (Open acting.account) → 1 ≤ price
      → why_order side order request seen m acting ≡ None → IsSound (act_order side order m acting).market
      → IsPlanned (planning.order_plan side order m acting) request m (act_order side order m acting)
  order-planned-at acting known priced none sound =
      let n : NewOrder = order acting.address in
      let reasons = first_of-none (why_order_early side request seen m acting ∷ why_ordering side n (order_reading side n seen m acting.account) ∷ []) none in
      let pays : Pays (payer side seen) = not-missing (payer side seen) (order-none side n request seen m acting none).asking.0 in
      let steps = order-at acting known in (
        record {
          account = acting.account;
          known = known;
          price = priced;
          seen = seen;
          wallet = pays.wallet;
          pays = pays.is;
          accepted = reasons.1.0;
          planned = refl;
          sums = refl;
          sound = subst (λ (s : Step). IsSound s.market) (sym steps) sound;
        },
        sym steps,
      )

  order-planned : 1 ≤ price → first_of (disabled m ∷ of_party (why_order side order request seen m) (party_of request.named m.traders) ∷ []) ≡ None
      → IsSound (by_party (act_order side order m) m (party_of request.named m.traders)).market
      → IsPlanned (planning.by_party (planning.order_plan side order m) (party_of request.named m.traders)) request m
      (by_party (act_order side order m) m (party_of request.named m.traders))
  order-planned priced none sound =
      let party = of-party (why_order side order request seen m) (party_of request.named m.traders)
      (first_of-none (disabled m ∷ of_party (why_order side order request seen m) (party_of request.named m.traders) ∷ []) none).1.0 in
      by-found (planning.order_plan side order m) (act_order side order m) request m party.acting party.is
      (order-planned-at party.acting (party-found request.named m.traders party.acting party.is) priced party.none
      (subst (λ (p : Option Party). IsSound (by_party (act_order side order m) m p).market) party.is sound))

-- ---- a take

-- its step is the same whatever it has to fill at least
bare-step : (side : Side) (taker : Taker) (min_lots min_pc : ℕ) (m : Market) → act_take side (take_of taker min_lots min_pc) m ≡ act_take side (bare_take taker) m
bare-step Bid taker min_lots min_pc m = refl
bare-step Ask taker min_lots min_pc m = refl

take-planned : (side : Side) (t : Take) (request : Request) (seen : Seen) (m : Market) → why_take side t request seen m ≡ None → IsSound (act_take side t m).market
    → IsPlanned (planning.take_plan side t request m) request m (act_take side t m)
take-planned side t request seen m none sound =
    let taker : Taker = planning.taker_of_take side request t in
    let same : act_take side t m ≡ take_step taker m = bare-step side taker t.min_lots t.min_pc m in (
      record {
        min_lots = t.min_lots;
        min_pc = t.min_pc;
        seen = seen;
        accepted = (take-none side t request seen m none).accepted;
        planned = refl;
        sums = ap (λ (s : Step). pending_fills_of s.market.events) same;
        sound = subst (λ (s : Step). IsSound s.market) same sound;
      },
      same,
    )

-- ---- cancels

cancel-planned : (what : CancelWhat) (reason : Party → Option Refusal) (request : Request) (m : Market)
    → ((acting : Party) → reason acting ≡ None → why_cancelled (named_by what) acting.address m ≡ None)
    → of_party reason (party_of request.named m.traders) ≡ None
    → IsSound (by_party (act_cancel (named_by what) m) m (party_of request.named m.traders)).market
    → IsPlanned (plans.Cancel what) request m (by_party (act_cancel (named_by what) m) m (party_of request.named m.traders))
cancel-planned what reason request m tells none sound =
    let party = of-party reason (party_of request.named m.traders) none in
    let steps : by_party (act_cancel (named_by what) m) m (party_of request.named m.traders) ≡ cancel_step (named_by what) party.acting.address m =
    ap (by_party (act_cancel (named_by what) m) m) party.is in
    of-first request.named m.traders party.acting _ party.is (
      record {
        account = party.acting.account;
        known = party-found request.named m.traders party.acting party.is;
        accepted = tells party.acting party.none;
        sound = subst (λ (s : Step). IsSound s.market) steps sound;
      },
      steps,
    )

cancel-none : (by : CancelBy) (request : Request) (m : Market) (acting : Party) → why_cancel by request m acting ≡ None → why_cancelled by acting.address m ≡ None
cancel-none by request m acting none = (first_of-none (not_owner request acting.account ∷ why_cancelled by acting.address m ∷ []) none).1.0

prune-none : (by : CancelBy) (request : Request) (m : Market) (acting : Party) → why_prune by request m acting ≡ None → why_cancelled by acting.address m ≡ None
prune-none by request m acting none = (first_of-none (not_authority request m ∷ why_cancelled by acting.address m ∷ []) none).1.0

-- ---- settling, sweeping, disabling, opening and closing

pays-out : (has_referrer : Bool) (account : Account) → PaysOut (plan_of (settlement has_referrer account)) account
pays-out true account = record { coin = refl; pc = refl; referrer = omega arith }
pays-out false account = record { coin = refl; pc = refl; referrer = omega arith }

-- the step of an open account that is found at its address
at-account : (acts : Party → Step) (m : Market) (acting : Party) → trader_at acting.address m.traders ≡ Some (Open acting.account)
    → by_party acts m (open_party acting.address (trader_at acting.address m.traders)) ≡ acts acting
at-account acts m acting known = ap (λ (t : Option Trader). by_party acts m (open_party acting.address t)) known

settle-planned : (request : Request) (seen : Seen) (m : Market) → of_party (why_settle request seen m) (party_of request.named m.traders) ≡ None
    → IsSound (by_party (act_settle seen m) m (party_of request.named m.traders)).market
    → IsPlanned (planning.by_party (planning.settle_plan seen) (party_of request.named m.traders)) request m
    (by_party (act_settle seen m) m (party_of request.named m.traders))
settle-planned request seen m none sound =
    let party = of-party (why_settle request seen m) (party_of request.named m.traders) none in
    let acting : Party = party.acting in
    let known = party-found request.named m.traders acting party.is in
    let plan : SettlePlan = plan_of (settlement (is_some seen.referrer) acting.account) in
    let steps : act_settle seen m acting ≡ settle_step plan acting.address m = sym (at-account (λ p. settled m p (settlement_by plan)) m acting known) in
    by-found (planning.settle_plan seen) (act_settle seen m) request m acting party.is
    (of-first request.named m.traders acting _ party.is (
      record {
        account = acting.account;
        known = known;
        out = pays-out (is_some seen.referrer) acting.account;
        sound = subst (λ (s : Step). IsSound s.market) (ap (by_party (act_settle seen m) m) party.is ∙ steps) sound;
      },
      steps,
    ))

close-planned : (request : Request) (m : Market) → of_party (why_close request) (party_of request.named m.traders) ≡ None
    → IsSound (by_party (act_close m) m (party_of request.named m.traders)).market
    → IsPlanned plans.Close request m (by_party (act_close m) m (party_of request.named m.traders))
close-planned request m none sound =
    let party = of-party (why_close request) (party_of request.named m.traders) none in
    let acting : Party = party.acting in
    let steps : by_party (act_close m) m (party_of request.named m.traders) ≡ close_step acting.address m = ap (by_party (act_close m) m) party.is in
    of-first request.named m.traders acting _ party.is (
      record {
        account = acting.account;
        known = party-found request.named m.traders acting party.is;
        empty = (first_of-none (not_person acting.account.person request.signer ∷ not_empty acting.account ∷ []) party.none).1.0;
        sound = subst (λ (s : Step). IsSound s.market) steps sound;
      },
      steps,
    )

-- an account that is to be opened is blank
blank-first : (trader : Option Trader) → not_blank trader ≡ None → trader ≡ Some Blank
blank-first None none = absurd (cc)
blank-first (Some Blank) none = refl
blank-first (Some Closed) none = absurd (cc)
blank-first (Some (Open account)) none = absurd (cc)

init-named : (named : List Address) (signer : Address) (m : Market) → not_blank (named_first named m.traders) ≡ None → IsSound (act_init named signer m).market
    → OfFirst named (λ owner. IsInitDecided owner signer m × (act_init named signer m ≡ init_step owner signer m))
init-named [] signer m none sound = absurd (cc)
init-named (address ∷ others) signer m none sound =
    record { address = address; others = others; is = refl; holds = (record { blank = blank-first (trader_at address m.traders) none; sound = sound }, refl) }

init-planned : (request : Request) (m : Market) → why_init request m ≡ None → IsSound (act_init request.named request.signer m).market
    → IsPlanned plans.Init request m (act_init request.named request.signer m)
init-planned request m none sound =
    init-named request.named request.signer m (first_of-none (when_disabled m.is_disabled ∷ not_blank (named_first request.named m.traders) ∷ []) none).1.0 sound

-- ---- each instruction

each-planned : (ix : Ix) (request : Request) (seen : Seen) (m : Market) → HasPrice (Ok ix) → why_instruction ix request seen m ≡ None → IsSound (act ix request seen m).market
    → IsPlanned (planning.plan_on ix request seen m) request m (act ix request seen m)
each-planned (InitializeMarket coin_lot pc_lot fee_rate_bps nonce dust) request seen m priced none sound = refl
each-planned (MatchOrders limit) request seen m priced none sound = refl
each-planned (ConsumeEvents limit) request seen m priced none sound = refl
each-planned SettleFunds request seen m priced none sound = settle-planned request seen m none sound
each-planned DisableMarket request seen m priced none sound = (record { sound = sound }, refl)
each-planned SweepFees request seen m priced none sound = (record { fees_are = refl; sound = sound }, refl)
each-planned (NewOrderV3 side price lots max_pc self_trade order_type client limit latest) request seen m priced none sound =
    order-planned side request seen price lots max_pc self_trade order_type client limit latest m priced none sound
each-planned (CancelOrderV2 side id) request seen m priced none sound =
    cancel-planned (cancels.ById side id) (why_cancel (ById side id) request m) request m (cancel-none (ById side id) request m) none sound
each-planned (CancelOrderByClientIdV2 client) request seen m priced none sound =
    cancel-planned (cancels.ByClient client) (why_cancel (ByClient client) request m) request m (cancel-none (ByClient client) request m) none sound
each-planned (SendTake side price lots max_pc min_lots min_pc limit) request seen m priced none sound =
    take-planned side (terms_take seen price lots max_pc min_lots min_pc limit) request seen m none sound
each-planned CloseOpenOrders request seen m priced none sound = close-planned request m none sound
each-planned InitOpenOrders request seen m priced none sound = init-planned request m none sound
each-planned (Prune limit) request seen m priced none sound =
    cancel-planned (cancels.Prune limit) (why_prune (First limit) request m) request m (prune-none (First limit) request m) none sound
each-planned (CancelOrdersByClientIds ids) request seen m priced none sound =
    let by : CancelBy = ByClients (take ids.count ids.ids) in
    cancel-planned (cancels.ByClients ids) (why_cancel by request m) request m (cancel-none by request m) none sound

decoded-planned : (instruction : Result Ix BadData) (request : Request) (seen : Seen) (m : Market) → HasPrice instruction → why_decoded instruction request seen m ≡ None
    → IsSound (act_decoded instruction request seen m).market
    → IsPlanned (planning.plan_decoded instruction request seen m) request m (act_decoded instruction request seen m)
decoded-planned (Err rule) request seen m priced none sound = absurd (cc)
decoded-planned (Ok ix) request seen m priced none sound = each-planned ix request seen m priced none sound

-- a plan that was decided is one of the step that was asked for
pub asked-planned : (request : Request) (seen : Seen) (m : Market) (plan : Plan) → IsSound m → HasPrice request.instruction → Ok plan ≡ planning.decided request seen m
    → IsPlanned plan request m (step request seen m)
asked-planned request seen m plan sound priced is =
    let ok = answered-ok (why request seen m) (planning.plan_decoded request.instruction request seen m) plan is in
    let steps : step request seen m ≡ act_decoded request.instruction request seen m =
    ap (λ (r : Option Refusal). unless_refused r m (act_decoded request.instruction request seen m)) ok.0 in
    let after : IsSound (act_decoded request.instruction request seen m).market = subst (λ (s : Step). IsSound s.market) steps (step-sound request seen m sound priced) in
    subst (λ (p : Plan). IsPlanned p request m (step request seen m)) (sym ok.1)
    (subst (IsPlanned (planning.plan_decoded request.instruction request seen m) request m) (sym steps)
    (decoded-planned request.instruction request seen m priced ok.0 after))

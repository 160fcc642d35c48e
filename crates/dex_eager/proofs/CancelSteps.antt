-- a cancel moves no worth, and takes the same orders from the eager market
use Rattle.std.proofs.Common.{ℕ, ◌+◌, ◌≡◌, ◌+ℤ◌, ◌-ℤ◌, ℤ, pos, Bool, true, false, cond, List, [], ◌∷◌, ◌++◌, Option, Some, None, is_some, length, drop, map, refl, sym, ap, ◌∙◌, subst, arith, append_assoc, append-nil}
use Rattle.std.specs.List.{All}
use Rattle.std.proofs.lemmas.Bool.{cond-false}
use Rattle.std.proofs.lemmas.List.{length-map}
use Rattle.std.proofs.lemmas.List.Elements.{All-nil, All-cons, All-head, All-tail}
use Rattle.dex_types.specs.declared.addresses.Address.{Address}
use Rattle.dex_types.specs.declared.orders.Order.{Order}
use Rattle.dex_types.specs.declared.refusals.Refusal.{Refusal}
use Rattle.dex_types.specs.declared.terms.Lots.{Lots}
use Rattle.dex_types.specs.declared.terms.Side.{Side}
use Rattle.dex_types.specs.declared.terms.Side.TheVariants.{Bid, Ask}
use Rattle.dex_types.specs.Addresses.{is_same}
use Rattle.dex_types.specs.Cancel.{RestingOrder, CancelBy, ById, ByClient, ByClients, First, cancelled, is_same_order, order_with, without_order, cancel_one, after_cancels}
use Rattle.dex_types.specs.Market.{Market, orders}
use Rattle.dex_types.specs.Meeting.{releasing_out}
use Rattle.dex_types.specs.Owed.{order_lock, owed, is_order_of, is_event_of}
use Rattle.dex_types.specs.QueuedEvent.{QueuedEvent}
use Rattle.dex_types.specs.Reasons.{first_of, not_resting, not_yours, zero_client, no_order, queue_full}
use Rattle.dex_types.specs.Requests.{Party}
use Rattle.dex_types.specs.Side.{Token, Coin, Pc, by_side, opposite}
use Rattle.dex_types.specs.Soundness.{IsSound}
use Rattle.dex_types.specs.Steps.{Step, cancelled_all, act_cancel}
use Rattle.dex_types.specs.Totals.{weighed_where}
use Rattle.dex_types.specs.Why.{why_unnamed, why_cancelled}
use Rattle.dex_laws.proofs.TotalLaws.{total-append}
use Rattle.dex_sound.proofs.CancelledLaws.{cancelled-rests, cancelled-apart, rests-after}
use Rattle.dex_sound.proofs.OrderSoundReasons.{first_of-none}
use Rattle.dex_sound.proofs.WithoutLaws.{total-without}
use Rattle.dex_sound.specs.Cancels.{Rests, AreApart}
use Rattle.dex_sound.specs.Kept.{addresses}
use Rattle.dex_eager.specs.Eager.{Eager, eager_at, orders_on, with_orders, without_all, cancel_by, eager_cancel}
use Rattle.dex_eager.specs.Histories.{IsPaidAs}
use Rattle.dex_eager.specs.Slots.{without_slots, maker_fills}
use Rattle.dex_eager.specs.Worth.{Worth, Ledger, with_step, for_account, deposit_in, settled_in, swept_in, referred_in, held_for, worth_of}
use Rattle.dex_eager.proofs.CancelSlots.{gone_without_slot, order_without_slot, order_with-slots, without_order-slots, cancelled-slots}
use Rattle.dex_eager.proofs.StepMoves.{eager-same, appended-is, for_account-none}
use Rattle.dex_eager.proofs.TakeSteps.{orders_on-slots}
use Rattle.dex_eager.proofs.WorthLists.{worths-by, worths-agree}

-- an account's worth goes by what the market holds for it, and by what it deposited and was settled
worth-by : (a : Address) (m after : Market) (ledger later : Ledger) → ((token : Token) → held_for token a after ≡ held_for token a m)
    → ((token : Token) → later.deposited token a ≡ ledger.deposited token a) → ((token : Token) → later.settled token a ≡ ledger.settled token a)
    → worth_of a after later ≡ worth_of a m ledger
worth-by a m after ledger later held deposited settled =
    let amount : ℕ → ℕ → ℕ → ℤ = λ h d s. (pos h -ℤ pos d) +ℤ pos s in
    let made : ℤ → ℤ → Worth = λ coin pc. record { coin = coin; pc = pc } in
    let each = λ (token : Token).
    ap (λ h. amount h (later.deposited token a) (later.settled token a)) (held token)
    ∙ ap (λ d. amount (held_for token a m) d (later.settled token a)) (deposited token)
    ∙ ap (amount (held_for token a m) (ledger.deposited token a)) (settled token) in
    ap (λ coin. made coin (worth_of a after later).pc) (each Coin) ∙ ap (made (worth_of a m ledger).coin) (each Pc)

-- a step that deposits and pays out nothing leaves what moved
pub ledger-still : (m : Market) (ledger : Ledger) (named : List Address) (s : Step) → ((token : Token) → deposit_in token s.reply s.transfers ≡ 0)
    → ((token : Token) → settled_in token s.reply ≡ 0) → swept_in s.reply ≡ 0 → referred_in s.reply ≡ 0 → eager_at m (with_step named s ledger) ≡ eager_at m ledger
ledger-still m ledger named s deposits settles sweeps refers =
    let later : Ledger = with_step named s ledger in
    eager-same (eager_at m later) (eager_at m ledger) refl refl refl refl refl refl
    (worths-by (λ a. worth_of a m later) m.traders
    ∙ worths-agree (λ a. worth_of a m later) (λ a. worth_of a m ledger) (addresses m.traders)
    (λ a. worth-by a m m ledger later (λ token. refl)
    (λ token. none a named (ledger.deposited token a) _ (deposits token)) (λ token. none a named (ledger.settled token a) _ (settles token)))
    ∙ sym (worths-by (λ a. worth_of a m ledger) m.traders))
    (omega (arith, sweeps, refers))
  where
    none : (a : Address) (named : List Address) (before amount : ℕ) → amount ≡ 0 → before + for_account a named amount ≡ before
    none a named before amount is =
        let nothing : for_account a named amount ≡ 0 = ap (for_account a named) is ∙ for_account-none a named in
        omega (arith, nothing)

none-either : (own : Bool) → cond {A = ℕ} own 0 0 ≡ 0
none-either true = refl
none-either false = refl

-- what an order that leaves locked, its out owes
cancel-held : (side : Side) (order : Order) (m : Market) → order_with order.id (orders side m) ≡ Some order → (token : Token) (a : Address)
    → held_for token a (cancel_one (record { side = side; order = order }) m) ≡ held_for token a m
cancel-held Bid order m rests Coin a =
    omega (arith, none-either (is_same a order.owner), total-append (weighed_where (is_event_of a) (owed Coin)) m.events (releasing_out Bid m.listing.sizes order order.lots ∷ []))
cancel-held Bid order m rests Pc a =
    omega (
      arith,
      total-append (weighed_where (is_event_of a) (owed Pc)) m.events (releasing_out Bid m.listing.sizes order order.lots ∷ []),
      total-without (weighed_where (is_order_of a) (order_lock Bid m.listing.sizes)) order.id order m.bids rests,
    )
cancel-held Ask order m rests Coin a =
    omega (
      arith,
      total-append (weighed_where (is_event_of a) (owed Coin)) m.events (releasing_out Ask m.listing.sizes order order.lots ∷ []),
      total-without (weighed_where (is_order_of a) (order_lock Ask m.listing.sizes)) order.id order m.asks rests,
    )
cancel-held Ask order m rests Pc a =
    omega (arith, none-either (is_same a order.owner), total-append (weighed_where (is_event_of a) (owed Pc)) m.events (releasing_out Ask m.listing.sizes order order.lots ∷ []))

both-left : (side : Side) (left opposing : List Order) → without_slots (by_side side left opposing) ≡ by_side side (without_slots left) (without_slots opposing)
both-left Bid left opposing = refl
both-left Ask left opposing = refl

-- one order that leaves the market leaves the eager market, and moves nothing else there
cancel-one : (gone : RestingOrder) (m : Market) (ledger : Ledger) → Rests gone m
    → let e = eager_at m ledger in
    eager_at (cancel_one gone m) ledger ≡ with_orders gone.side (without_order gone.order.id (orders_on gone.side e)) (orders_on (opposite gone.side) e) e
cancel-one gone m ledger rests =
    let e : Eager = eager_at m ledger in
    let side : Side = gone.side in
    let id : ℕ = gone.order.id in
    let after : Market = cancel_one gone m in
    let left : without_slots (without_order id (orders side m)) ≡ without_order id (orders_on side e) =
    sym (ap (without_order id) (orders_on-slots side m ledger) ∙ without_order-slots id (orders side m)) in
    let opposing : without_slots (orders (opposite side) m) ≡ orders_on (opposite side) e = sym (orders_on-slots (opposite side) m ledger) in
    eager-same (eager_at after ledger) (with_orders side (without_order id (orders_on side e)) (orders_on (opposite side) e) e) refl refl refl
    (both-left side _ _ ∙ ap (λ own. by_side side own (without_slots (orders (opposite side) m))) left ∙ ap (by_side side (without_order id (orders_on side e))) opposing)
    (both-left side _ _ ∙ ap (λ own. by_side side own (without_slots (without_order id (orders side m)))) opposing ∙ ap (by_side side (orders_on (opposite side) e)) left)
    refl
    (worths-by (λ a. worth_of a after ledger) m.traders
    ∙ worths-agree (λ a. worth_of a after ledger) (λ a. worth_of a m ledger) (addresses m.traders)
    (λ a. worth-by a m after ledger ledger (λ token. cancel-held side gone.order m rests token a) (λ token. refl) (λ token. refl))
    ∙ sym (worths-by (λ a. worth_of a m ledger) m.traders))
    refl

-- those that rest apart from one that left rest on
rest-on : (first : RestingOrder) (gone : List RestingOrder) (m : Market) → All (λ (other : RestingOrder). is_same_order first other ≡ false) gone
    → All (λ (order : RestingOrder). Rests order m) gone → All (λ (order : RestingOrder). Rests order (cancel_one first m)) gone
rest-on first [] m apart rests = All-nil _
rest-on first (other ∷ gone) m apart rests =
    let IsAway : RestingOrder → Type 0 = λ other. is_same_order first other ≡ false in
    let IsHere : RestingOrder → Type 0 = λ order. Rests order m in
    All-cons (λ (order : RestingOrder). Rests order (cancel_one first m)) other gone
    (rests-after first other m (All-head IsAway other gone apart) (All-head IsHere other gone rests))
    (rest-on first gone m (All-tail IsAway other gone apart) (All-tail IsHere other gone rests))

-- and so do all that leave, one after the other
cancel-all : (gone : List RestingOrder) (m : Market) (ledger : Ledger) → All (λ (order : RestingOrder). Rests order m) gone → AreApart gone
    → eager_at (after_cancels gone m) ledger ≡ without_all (map gone_without_slot gone) (eager_at m ledger)
cancel-all [] m ledger rest apart = refl
cancel-all (first ∷ gone) m ledger rest apart =
    let IsHere : RestingOrder → Type 0 = λ order. Rests order m in
    cancel-all gone (cancel_one first m) ledger (rest-on first gone m apart.0 (All-tail IsHere first gone rest)) apart.1
    ∙ ap (without_all (map gone_without_slot gone)) (cancel-one first m ledger (All-head IsHere first gone rest))

-- the outs of orders that leave
abbrev outs : Lots → List RestingOrder → List QueuedEvent
outs sizes gone = map (λ (one : RestingOrder). releasing_out one.side sizes one.order one.order.lots) gone

cancels-events : (gone : List RestingOrder) (m : Market) → (after_cancels gone m).events ≡ m.events ++ outs m.listing.sizes gone
cancels-events [] m = sym (append-nil m.events)
cancels-events (first ∷ gone) m =
    cancels-events gone (cancel_one first m)
    ∙ append_assoc m.events (releasing_out first.side m.listing.sizes first.order first.order.lots ∷ []) (outs m.listing.sizes gone)

outs-fills : (sizes : Lots) (gone : List RestingOrder) → maker_fills (outs sizes gone) ≡ []
outs-fills sizes [] = refl
outs-fills sizes (first ∷ gone) = outs-fills sizes gone

-- a cancel names no order on the eager market exactly where it names none on the market
not_resting-slots : (named other : Option Order) → not_resting (order_without_slot named) (order_without_slot other) ≡ not_resting named other
not_resting-slots None None = refl
not_resting-slots None (Some other) = refl
not_resting-slots (Some order) other = refl

not_yours-slots : (owner : Address) (named : Option Order) → not_yours owner (order_without_slot named) ≡ not_yours owner named
not_yours-slots owner None = refl
not_yours-slots owner (Some order) = refl

found-slots : (side : Side) (id : ℕ) (m : Market) (ledger : Ledger) → order_with id (orders_on side (eager_at m ledger)) ≡ order_without_slot (order_with id (orders side m))
found-slots side id m ledger = ap (order_with id) (orders_on-slots side m ledger) ∙ order_with-slots id (orders side m)

why-slots : (by : CancelBy) (owner : Address) (m : Market) (ledger : Ledger) (gone : List RestingOrder)
    → why_unnamed by owner (eager_at m ledger).bids (eager_at m ledger).asks (map gone_without_slot gone) ≡ why_unnamed by owner m.bids m.asks gone
why-slots (ById side id) owner m ledger gone =
    let reasons : Option Refusal → Option Refusal → Option Refusal = λ first second. first_of (first ∷ second ∷ []) in
    let there : Option Order = order_with id (orders side m) in
    let across : Option Order = order_with id (orders (opposite side) m) in
    ap (λ found. reasons (not_resting found (order_with id (orders_on (opposite side) (eager_at m ledger)))) (not_yours owner found)) (found-slots side id m ledger)
    ∙ ap (λ found. reasons (not_resting (order_without_slot there) found) (not_yours owner (order_without_slot there))) (found-slots (opposite side) id m ledger)
    ∙ ap (λ first. reasons first (not_yours owner (order_without_slot there))) (not_resting-slots there across)
    ∙ ap (reasons (not_resting there across)) (not_yours-slots owner there)
why-slots (ByClient client) owner m ledger gone = ap (λ count. first_of (zero_client client ∷ no_order count ∷ [])) (length-map gone gone_without_slot)
why-slots (ByClients clients) owner m ledger gone = refl
why-slots (First count) owner m ledger gone = refl

-- a cancel does what it does on the eager market
pub cancelled-paid : (by : CancelBy) (m : Market) (ledger : Ledger) (named : List Address) (party : Party) → IsSound m → why_cancelled by party.address m ≡ None
    → IsPaidAs m ledger named (act_cancel by m party) (eager_cancel by (eager_at m ledger) party.address)
cancelled-paid by m ledger named party sound none =
    let e : Eager = eager_at m ledger in
    let gone : List RestingOrder = cancelled by party.address m.bids m.asks in
    let s : Step = cancelled_all gone m in
    let parts = first_of-none (why_unnamed by party.address m.bids m.asks gone ∷ queue_full (length gone) m ∷ []) none in
    let paid : eager_cancel by e party.address ≡ record { market = without_all (map gone_without_slot gone) e; fills = [] } =
    ap (cancel_by by party.address e) (cancelled-slots by party.address m.bids m.asks)
    ∙ cond-false _ _ _ (ap is_some (why-slots by party.address m ledger gone ∙ parts.0)) in
    let made : IsPaidAs m ledger named s (record { market = without_all (map gone_without_slot gone) e; fills = [] }) = record {
      market = ledger-still s.market ledger named s (λ token. refl) (λ token. refl) refl refl
          ∙ cancel-all gone m ledger (cancelled-rests by party.address m sound.form.in_order) (cancelled-apart by party.address m sound.form.in_order);
      fills = ap (λ events. maker_fills (drop (length m.events) events)) (cancels-events gone m)
          ∙ ap maker_fills (appended-is m.events (outs m.listing.sizes gone)) ∙ outs-fills m.listing.sizes gone;
    } in
    subst (IsPaidAs m ledger named s) (sym paid) made

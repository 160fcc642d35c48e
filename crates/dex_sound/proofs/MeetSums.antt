-- what a meeting and a posting leave of sums: of each token, for all orders and for those that pass a test, as an
-- owner's
use Rattle.std.proofs.Common.{ℕ, ◌+◌, ◌<◌, ◌≡◌, Bool, true, false, cond, eqb, List, [], ◌∷◌, Option, Some, None, get_or, refl, sym, ap, ◌∙◌, arith}
use Rattle.std.specs.List.{All}
use Rattle.std.proofs.lemmas.Bool.{cond_both, eqb-true}
use Rattle.std.proofs.lemmas.List.Elements.{All-nil, All-cons, All-weaker}
use Rattle.dex_types.specs.declared.orders.Order.{Order}
use Rattle.dex_types.specs.declared.terms.Lots.{Lots}
use Rattle.dex_types.specs.declared.terms.Side.{Side}
use Rattle.dex_types.specs.declared.terms.Side.TheVariants.{Bid, Ask}
use Rattle.dex_types.specs.Fees.{referrer_part}
use Rattle.dex_types.specs.Meeting.{TakerTerms, Demand, Meeting, event_of, plain_out, releasing_out, meet}
use Rattle.dex_types.specs.NewOrder.{NewOrder, got, spent, fee_of, taker_events, last_events}
use Rattle.dex_types.specs.Owed.{order_lock, owed, owed_as, leaving, leaving_as, kept, kept_as, referred}
use Rattle.dex_types.specs.Posting.{post}
use Rattle.dex_types.specs.QueuedEvent.{QueuedEvent, EventKind, MakerFill, TakerFill, PlainOut, ReleasingOut}
use Rattle.dex_types.specs.Side.{Token, Coin, Pc, opposite, locked_token, gained_token, price_of, lock}
use Rattle.dex_types.specs.Tokens.{locking_side}
use Rattle.dex_types.specs.Totals.{total, weighed_where}
use Rattle.dex_laws.specs.Locks.{unlocked, unlocked_as}
use Rattle.dex_laws.proofs.EachEventLaws.{meet-each}
use Rattle.dex_laws.proofs.LockLaws.{post-told, lock-none}
use Rattle.dex_laws.proofs.MovedLaws.{Tells-where, Tells-locks, IsTestOfOrder, meet-told}
use Rattle.dex_laws.proofs.SpendLaws.{fee_of-le}
use Rattle.dex_laws.proofs.TotalLaws.{total-agree, total-none}
use Rattle.dex_sound.specs.Exchange.{gained, gained_as, taker_pays, taker_gets, withheld, IsBalanced}

-- what an event keeps of a token in its owner's total, with what it brings, is what it is still to take and what it
-- owes
event-amounts : (token : Token) (kind : EventKind) (event : QueuedEvent)
    → kept_as token kind event + gained_as token kind event ≡ leaving_as token kind event + owed_as token kind event
event-amounts Coin (MakerFill Bid) event = omega arith
event-amounts Coin (MakerFill Ask) event = omega arith
event-amounts Coin (TakerFill side) event = refl
event-amounts Coin (PlainOut side) event = refl
event-amounts Coin (ReleasingOut Bid) event = refl
event-amounts Coin (ReleasingOut Ask) event = omega arith
event-amounts Pc (MakerFill Bid) event = omega arith
event-amounts Pc (MakerFill Ask) event = omega arith
event-amounts Pc (TakerFill side) event = refl
event-amounts Pc (PlainOut side) event = refl
event-amounts Pc (ReleasingOut Bid) event = omega arith
event-amounts Pc (ReleasingOut Ask) event = refl

total-amounts : (token : Token) (events : List QueuedEvent)
    → total (kept token) events + total (gained token) events ≡ total (leaving token) events + total (owed token) events
total-amounts token [] = refl
total-amounts token (event ∷ events) = omega (arith, event-amounts token event.kind event, total-amounts token events)

-- what a taker pays, with what its makers' events keep, is what it gets, what is withheld, and what the events owe
pub balanced-owed : (side : Side) (sizes : Lots) (met : Meeting) (fee : ℕ) (token : Token) → IsBalanced side sizes met fee token
    → taker_pays side sizes met fee token + total (kept token) met.events
    ≡ taker_gets side sizes met fee token + withheld met fee token + total (owed token) met.events
balanced-owed side sizes met fee token balanced = omega (arith, balanced, total-amounts token met.events)

-- what an event keeps of a token is what it took off the locks of the side that locks it
kept-unlocked : (token : Token) (kind : EventKind) (event : QueuedEvent) → unlocked_as (locking_side token) kind event ≡ kept_as token kind event
kept-unlocked Coin (MakerFill Bid) event = refl
kept-unlocked Coin (MakerFill Ask) event = refl
kept-unlocked Coin (TakerFill side) event = refl
kept-unlocked Coin (PlainOut side) event = refl
kept-unlocked Coin (ReleasingOut Bid) event = refl
kept-unlocked Coin (ReleasingOut Ask) event = refl
kept-unlocked Pc (MakerFill Bid) event = refl
kept-unlocked Pc (MakerFill Ask) event = refl
kept-unlocked Pc (TakerFill side) event = refl
kept-unlocked Pc (PlainOut side) event = refl
kept-unlocked Pc (ReleasingOut Bid) event = refl
kept-unlocked Pc (ReleasingOut Ask) event = refl

locking-gained : (side : Side) → locking_side (gained_token side) ≡ opposite side
locking-gained Bid = refl
locking-gained Ask = refl

kept-opposite : (side : Side) (event : QueuedEvent) → unlocked (opposite side) event ≡ kept (gained_token side) event
kept-opposite Bid event = kept-unlocked Coin event.kind event
kept-opposite Ask event = kept-unlocked Pc event.kind event

-- what holds of everything holds of each item
pub always : {X : Type 0} (P : X → Type 0) → ((x : X) → P x) → (xs : List X) → All P xs
always P each xs = λ k d inside. each (get_or xs k d)

-- what the met side locks is locked still, or the events keep it; also of the orders that pass a test
pub met-locked : (test : Order → Bool) (tested : QueuedEvent → Bool) → IsTestOfOrder test tested
    → (side : Side) (t : TakerTerms) (w : Demand) (orders : List Order)
    → total (weighed_where test (order_lock (opposite side) t.sizes)) orders
    ≡ total (weighed_where test (order_lock (opposite side) t.sizes)) (meet side t w orders).left
    + total (weighed_where tested (kept (gained_token side))) (meet side t w orders).events
met-locked test tested is side t w orders =
    meet-told side t (λ order. Unit {0}) _ _ (Tells-where test tested is side t _ _ _ (Tells-locks side t)) w orders (λ k d inside. tt)
    ∙ ap (λ kept_there. total (weighed_where test (order_lock (opposite side) t.sizes)) (meet side t w orders).left + kept_there)
    (total-agree (weighed_where tested (unlocked (opposite side))) (weighed_where tested (kept (gained_token side))) (meet side t w orders).events
    (always (λ (e : QueuedEvent). weighed_where tested (unlocked (opposite side)) e ≡ weighed_where tested (kept (gained_token side)) e)
    (λ e. ap (λ amount. cond (tested e) amount 0) (kept-opposite side e)) (meet side t w orders).events))

cond-zero : (test : Bool) (amount : ℕ) → amount ≡ 0 → cond test amount 0 ≡ 0
cond-zero true amount none = none
cond-zero false amount none = refl

-- a weight that no event has has no total, whatever the test
tested-none : (tested : QueuedEvent → Bool) (weight : QueuedEvent → ℕ) (events : List QueuedEvent) → All (λ (e : QueuedEvent). weight e ≡ 0) events
    → total (weighed_where tested weight) events ≡ 0
tested-none tested weight events none =
    total-none (weighed_where tested weight) events
    (All-weaker (λ (e : QueuedEvent). weight e ≡ 0) (λ (e : QueuedEvent). weighed_where tested weight e ≡ 0) (λ e is. cond-zero (tested e) (weight e) is) events none)

own-none : (side : Side) (t : TakerTerms) (w : Demand) (orders : List Order) → All (λ (e : QueuedEvent). kept (locked_token side) e ≡ 0) (meet side t w orders).events
own-none Bid t w orders =
    meet-each (λ order. Unit {0}) (λ (e : QueuedEvent). kept Pc e ≡ 0) Bid t
    (λ order lots sound within. refl) (λ order lots sound within. refl) (λ order sound. refl) w orders (λ k d inside. tt)
own-none Ask t w orders =
    meet-each (λ order. Unit {0}) (λ (e : QueuedEvent). kept Coin e ≡ 0) Ask t
    (λ order lots sound within. refl) (λ order lots sound within. refl) (λ order sound. refl) w orders (λ k d inside. tt)

-- the events of a meeting keep nothing of the token that the taker pays
pub met-own : (tested : QueuedEvent → Bool) (side : Side) (t : TakerTerms) (w : Demand) (orders : List Order)
    → total (weighed_where tested (kept (locked_token side))) (meet side t w orders).events ≡ 0
met-own tested side t w orders = tested-none tested (kept (locked_token side)) (meet side t w orders).events (own-none side t w orders)

-- no event of a meeting is a taker's
pub met-referred : (side : Side) (t : TakerTerms) (w : Demand) (orders : List Order) → total referred (meet side t w orders).events ≡ 0
met-referred side t w orders = total-none referred (meet side t w orders).events (each side t w orders)
  where
    each : (side : Side) (t : TakerTerms) (w : Demand) (orders : List Order) → All (λ (e : QueuedEvent). referred e ≡ 0) (meet side t w orders).events
    each Bid t w orders =
        meet-each (λ order. Unit {0}) (λ (e : QueuedEvent). referred e ≡ 0) Bid t
        (λ order lots sound within. refl) (λ order lots sound within. refl) (λ order sound. refl) w orders (λ k d inside. tt)
    each Ask t w orders =
        meet-each (λ order. Unit {0}) (λ (e : QueuedEvent). referred e ≡ 0) Ask t
        (λ order lots sound within. refl) (λ order lots sound within. refl) (λ order sound. refl) w orders (λ k d inside. tt)

-- a posting keeps the locks of what stood and of the order, or its last event keeps them
pub posted-locked : (test : Order → Bool) (tested : QueuedEvent → Bool) → IsTestOfOrder test tested
    → (side : Side) (sizes : Lots) (room : ℕ) (order : Order) (orders : List Order) → 0 < room
    → total (weighed_where test (order_lock side sizes)) (post side room order orders).side
    + total (weighed_where tested (kept (locked_token side))) (last_events side sizes order (post side room order orders).booted)
    ≡ total (weighed_where test (order_lock side sizes)) orders + weighed_where test (order_lock side sizes) order
posted-locked test tested is side sizes room order orders some_room =
    post-told side sizes (weighed_where test (order_lock side sizes)) (weighed_where tested (kept (locked_token side)))
    (λ gone. same-where (test gone) (tested (releasing_out side sizes gone gone.lots)) _ _ (is.event _ gone _ _ _) (kept-release side sizes gone gone.lots))
    room order orders some_room
    (λ none. same-where (test order) (tested (plain_out side order)) _ _ (is.event _ order _ _ _)
    (kept-plain side order ∙ sym (ap (lock side sizes (price_of order.id)) none ∙ lock-none side sizes (price_of order.id))))
  where
    same-where : (test tested : Bool) (amount other : ℕ) → tested ≡ test → other ≡ amount → cond tested other 0 ≡ cond test amount 0
    same-where test tested amount other same equal = rw (same, equal) refl

    kept-release : (side : Side) (sizes : Lots) (order : Order) (lots : ℕ) → kept (locked_token side) (releasing_out side sizes order lots) ≡ lock side sizes (price_of order.id) lots
    kept-release Bid sizes order lots = refl
    kept-release Ask sizes order lots = refl

    kept-plain : (side : Side) (order : Order) → kept (locked_token side) (plain_out side order) ≡ 0
    kept-plain Bid order = refl
    kept-plain Ask order = refl

-- what holds of an out of the order and of the release of the order that had to leave holds of the last event
pub last-each : (P : QueuedEvent → Type 0) (side : Side) (sizes : Lots) (order : Order) (booted : Option Order)
    → (order.lots ≡ 0 → P (plain_out side order)) → ((gone : Order) → booted ≡ Some gone → P (releasing_out side sizes gone gone.lots))
    → All P (last_events side sizes order booted)
last-each P side sizes order None out release =
    cond_both (eqb order.lots 0) (plain_out side order ∷ []) [] (λ events. All P events)
    (λ none. All-cons P (plain_out side order) [] (out (eqb-true order.lots 0 none)) (All-nil P)) (λ some. All-nil P)
last-each P side sizes order (Some gone) out release =
    All-cons P (releasing_out side sizes gone gone.lots) [] (release gone refl) (All-nil P)

-- the last event of a new order keeps nothing of the token that the order brings in
pub last-other : (tested : QueuedEvent → Bool) (side : Side) (sizes : Lots) (order : Order) (booted : Option Order)
    → total (weighed_where tested (kept (gained_token side))) (last_events side sizes order booted) ≡ 0
last-other tested side sizes order booted =
    tested-none tested (kept (gained_token side)) (last_events side sizes order booted)
    (last-each (λ (e : QueuedEvent). kept (gained_token side) e ≡ 0) side sizes order booted (λ none. plain side) (λ gone is. release side gone))
  where
    plain : (side : Side) → kept (gained_token side) (plain_out side order) ≡ 0
    plain Bid = refl
    plain Ask = refl

    release : (side : Side) (gone : Order) → kept (gained_token side) (releasing_out side sizes gone gone.lots) ≡ 0
    release Bid gone = refl
    release Ask gone = refl

-- of a token the last event of a new order owes what it keeps
pub last-owed : (token : Token) (side : Side) (sizes : Lots) (order : Order) (booted : Option Order)
    → total (owed token) (last_events side sizes order booted) ≡ total (kept token) (last_events side sizes order booted)
last-owed token side sizes order booted =
    total-agree (owed token) (kept token) (last_events side sizes order booted)
    (last-each (λ (e : QueuedEvent). owed token e ≡ kept token e) side sizes order booted (λ none. plain token) (λ gone is. release token side gone))
  where
    plain : (token : Token) → owed token (plain_out side order) ≡ kept token (plain_out side order)
    plain Coin = refl
    plain Pc = refl

    release : (token : Token) (side : Side) (gone : Order) → owed token (releasing_out side sizes gone gone.lots) ≡ kept token (releasing_out side sizes gone gone.lots)
    release Coin Bid gone = refl
    release Coin Ask gone = refl
    release Pc Bid gone = refl
    release Pc Ask gone = refl

-- and none is a taker's
pub last-referred : (side : Side) (sizes : Lots) (order : Order) (booted : Option Order) → total referred (last_events side sizes order booted) ≡ 0
last-referred side sizes order booted =
    total-none referred (last_events side sizes order booted) (last-each (λ (e : QueuedEvent). referred e ≡ 0) side sizes order booted (λ none. refl) (λ gone is. refl))

-- every order, and every event: the test that all pass
pub of-all : IsTestOfOrder (λ order. true) (λ event. true)
of-all = record { smaller = λ order lots. refl; event = λ kind order released paid rebate. refl }

-- what all orders lock before a meeting is what they lock after it, with what its events keep
pub met-locked_all : (side : Side) (t : TakerTerms) (w : Demand) (orders : List Order)
    → total (order_lock (opposite side) t.sizes) orders
    ≡ total (order_lock (opposite side) t.sizes) (meet side t w orders).left + total (kept (gained_token side)) (meet side t w orders).events
met-locked_all = met-locked (λ order. true) (λ event. true) of-all

pub met-own_all : (side : Side) (t : TakerTerms) (w : Demand) (orders : List Order) → total (kept (locked_token side)) (meet side t w orders).events ≡ 0
met-own_all = met-own (λ event. true)

pub posted-locked_all : (side : Side) (sizes : Lots) (room : ℕ) (order : Order) (orders : List Order) → 0 < room
    → total (order_lock side sizes) (post side room order orders).side
    + total (kept (locked_token side)) (last_events side sizes order (post side room order orders).booted)
    ≡ total (order_lock side sizes) orders + order_lock side sizes order
posted-locked_all = posted-locked (λ order. true) (λ event. true) of-all

pub last-other_all : (side : Side) (sizes : Lots) (order : Order) (booted : Option Order)
    → total (kept (gained_token side)) (last_events side sizes order booted) ≡ 0
last-other_all = last-other (λ event. true)

-- the taker's fill owes nothing and keeps nothing, whose ever events are asked for
pub taker-each : (P : QueuedEvent → Type 0) (side : Side) (sizes : Lots) (n : NewOrder) (met : Meeting) (order : Order)
    → P (event_of (TakerFill side) order (got side sizes n met) (spent side sizes n met) (fee_of n met)) → All P (taker_events side sizes n met order)
taker-each P side sizes n met order holds =
    let fill : QueuedEvent = event_of (TakerFill side) order (got side sizes n met) (spent side sizes n met) (fee_of n met) in
    cond_both (eqb met.pc 0) [] (fill ∷ []) (All P) (λ none. All-nil P) (λ some. All-cons P fill [] holds (All-nil P))

pub taker-owed : (token : Token) (side : Side) (sizes : Lots) (n : NewOrder) (met : Meeting) (order : Order) → total (owed token) (taker_events side sizes n met order) ≡ 0
taker-owed token side sizes n met order =
    total-none (owed token) (taker_events side sizes n met order) (taker-each (λ (e : QueuedEvent). owed token e ≡ 0) side sizes n met order (nothing token))
  where
    nothing : (token : Token) → owed token (event_of (TakerFill side) order (got side sizes n met) (spent side sizes n met) (fee_of n met)) ≡ 0
    nothing Coin = refl
    nothing Pc = refl

pub taker-kept : (tested : QueuedEvent → Bool) (token : Token) (side : Side) (sizes : Lots) (n : NewOrder) (met : Meeting) (order : Order)
    → total (weighed_where tested (kept token)) (taker_events side sizes n met order) ≡ 0
taker-kept tested token side sizes n met order =
    tested-none tested (kept token) (taker_events side sizes n met order) (taker-each (λ (e : QueuedEvent). kept token e ≡ 0) side sizes n met order (nothing token))
  where
    nothing : (token : Token) → kept token (event_of (TakerFill side) order (got side sizes n met) (spent side sizes n met) (fee_of n met)) ≡ 0
    nothing Coin = refl
    nothing Pc = refl

-- nothing that was traded has no fee
fee-none : (n : NewOrder) (met : Meeting) → met.pc ≡ 0 → fee_of n met ≡ 0
fee-none n met none = omega (arith, fee_of-le n met)

-- the taker's fill carries the referrer's part of the fee
pub taker-referred : (side : Side) (sizes : Lots) (n : NewOrder) (met : Meeting) (order : Order)
    → total referred (taker_events side sizes n met order) ≡ referrer_part (fee_of n met)
taker-referred side sizes n met order =
    let fill : QueuedEvent = event_of (TakerFill side) order (got side sizes n met) (spent side sizes n met) (fee_of n met) in
    cond_both (eqb met.pc 0) [] (fill ∷ []) (λ events. total referred events ≡ referrer_part (fee_of n met))
    (λ none. let free : fee_of n met ≡ 0 = fee-none n met (eqb-true met.pc 0 none) in omega arith) (λ some. omega arith)

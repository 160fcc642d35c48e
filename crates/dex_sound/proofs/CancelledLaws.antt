-- what a cancel takes: orders that rest, each once; and taking them one after the other keeps a market sound
use Rattle.std.proofs.Common.{ℕ, zero, suc, ◌+◌, ◌≤◌, ◌≡◌, ◌≢◌, true, false, not, ◌&&◌, eqb, leb, List, [], ◌∷◌, ◌++◌, Option, Some, None, length, take, refl, sym, ap, ◌∙◌, subst, arith, ⊎_elim, length-append}
use Rattle.std.specs.List.{All}
use Rattle.std.proofs.lemmas.Bool.{not-false, cases_Bool, cond_both, cond-true, cond-false, eqb-true, ne_eqb, and_parts, and_left, and_right}
use Rattle.std.proofs.lemmas.List.Elements.{All-nil, All-cons, All-head, All-tail, All-append, All-weaker, All-take}
use Rattle.dex_types.specs.declared.addresses.Address.{Address}
use Rattle.dex_types.specs.declared.orders.Order.{Order}
use Rattle.dex_types.specs.declared.terms.Side.{Side}
use Rattle.dex_types.specs.declared.terms.Side.TheVariants.{Bid, Ask}
use Rattle.dex_types.specs.Addresses.{is_same}
use Rattle.dex_types.specs.Cancel.{RestingOrder, CancelBy, ById, ByClient, ByClients, First, order_with, without_order, orders_of, all_orders_of, age_of, older, oldest, is_same_order, without_taken, at_most_one, taken_by, taken_by_all, on_side, cancelled, cancel_one, after_cancels}
use Rattle.dex_types.specs.Market.{Market, orders, with_sides}
use Rattle.dex_types.specs.Meeting.{releasing_out}
use Rattle.dex_types.specs.Posting.{PrecedesAll, InBookOrder}
use Rattle.dex_types.specs.Side.{opposite, precedes}
use Rattle.dex_types.specs.Reasons.{not_resting, not_yours, queue_full}
use Rattle.dex_types.specs.Soundness.{IsSound}
use Rattle.dex_types.specs.Tokens.{is_same_side}
use Rattle.dex_types.specs.Why.{why_unnamed, why_cancelled}
use Rattle.dex_types.specs.declared.refusals.Refusal.TheVariants as refusal
use Rattle.dex_laws.proofs.BestFirstLaws.{All-PrecedesAll}
use Rattle.dex_laws.proofs.IdLaws.{precedes-apart}
use Rattle.dex_sound.specs.Cancels.{Rests, AreApart, AreOwnResting}
use Rattle.dex_sound.specs.Places.{IsSoundByPlace}
use Rattle.dex_sound.proofs.CancelSound.{cancel_one-sound}
use Rattle.dex_sound.proofs.OrderSoundReasons.{first_of-none, refused_where-none}
use Rattle.dex_sound.proofs.PlaceLaws.{is_same_side-true}
use Rattle.dex_sound.proofs.WithoutLaws.{order_with-first, order_with-behind, order_with-without, found-All, found-id}

-- an order of a side: on that side, found there by its id, and the owner's
record IsOn (owner : Address) (side : Side) (orders : List Order) (resting : RestingOrder) : Type 0 where
  pub there : resting.side ≡ side
  pub found : order_with resting.order.id orders ≡ Some resting.order
  pub own : is_same owner resting.order.owner ≡ true

-- one found after another order in book order is found with it
on-behind : (owner : Address) (side : Side) (first : Order) (others : List Order) → PrecedesAll side first.id others → (resting : RestingOrder)
    → IsOn owner side others resting → IsOn owner side (first ∷ others) resting
on-behind owner side first others before resting on =
    let precedes_it : precedes side first.id resting.order.id ≡ true =
    found-All (λ (o : Order). precedes side first.id o.id ≡ true) resting.order.id resting.order others on.found (All-PrecedesAll side first.id others before) in
    record {
      there = on.there;
      found = order_with-behind resting.order.id first others (precedes-apart side first.id resting.order.id precedes_it) ∙ on.found;
      own = on.own;
    }

orders_of-on : (owner : Address) (side : Side) (resting : List Order) → InBookOrder side resting → All (IsOn owner side resting) (orders_of owner side resting)
orders_of-on owner side [] sorted = All-nil _
orders_of-on owner side (first ∷ others) sorted =
    let later : All (IsOn owner side (first ∷ others)) (orders_of owner side others) =
    All-weaker (IsOn owner side others) (IsOn owner side (first ∷ others)) (on-behind owner side first others sorted.0) (orders_of owner side others) (orders_of-on owner side others sorted.1) in
    cond_both (is_same owner first.owner) (record { side = side; order = first } ∷ orders_of owner side others) (orders_of owner side others)
    (λ (all : List RestingOrder). All (IsOn owner side (first ∷ others)) all)
    (λ own. All-cons (IsOn owner side (first ∷ others)) (record { side = side; order = first }) (orders_of owner side others) (record { there = refl; found = order_with-first first others; own = own }) later)
    (λ other. later)

-- orders of other ids are apart
apart-ids : (first other : RestingOrder) → first.order.id ≢ other.order.id → is_same_order first other ≡ false
apart-ids first other apart = and_right (is_same_side first.side other.side) (eqb first.order.id other.order.id) (ne_eqb first.order.id other.order.id apart)

orders_of-apart : (owner : Address) (side : Side) (resting : List Order) → InBookOrder side resting → AreApart (orders_of owner side resting)
orders_of-apart owner side [] sorted = tt
orders_of-apart owner side (first ∷ others) sorted =
    let mine : RestingOrder = record { side = side; order = first } in
    let away : All (λ (other : RestingOrder). is_same_order mine other ≡ false) (orders_of owner side others) =
    All-weaker (IsOn owner side others) (λ (other : RestingOrder). is_same_order mine other ≡ false)
    (λ other on. apart-ids mine other (precedes-apart side first.id other.order.id
    (found-All (λ (o : Order). precedes side first.id o.id ≡ true) other.order.id other.order others on.found (All-PrecedesAll side first.id others sorted.0))))
    (orders_of owner side others) (orders_of-on owner side others sorted.1) in
    cond_both (is_same owner first.owner) (mine ∷ orders_of owner side others) (orders_of owner side others) AreApart
    (λ own. (away, orders_of-apart owner side others sorted.1)) (λ other. orders_of-apart owner side others sorted.1)

pub AreApart-append : (first later : List RestingOrder) → AreApart first → AreApart later
    → All (λ (one : RestingOrder). All (λ (other : RestingOrder). is_same_order one other ≡ false) later) first → AreApart (first ++ later)
AreApart-append [] later apart then away = then
AreApart-append (one ∷ first) later apart then away =
    let IsAway : RestingOrder → Type 0 = λ one. All (λ (other : RestingOrder). is_same_order one other ≡ false) later in (
      All-append (λ (other : RestingOrder). is_same_order one other ≡ false) first later apart.0 (All-head IsAway one first away),
      AreApart-append first later apart.1 then (All-tail IsAway one first away),
    )

-- an order that rests, and is the owner's
record IsMine (owner : Address) (m : Market) (resting : RestingOrder) : Type 0 where
  pub rests : Rests resting m
  pub own : is_same owner resting.order.owner ≡ true

on-mine : (owner : Address) (side : Side) (m : Market) (resting : RestingOrder) → IsOn owner side (orders side m) resting → IsMine owner m resting
on-mine owner side m resting on = record { rests = ap (λ s. order_with resting.order.id (orders s m)) on.there ∙ on.found; own = on.own }

-- all orders of the owner
abbrev mine : Address → Market → List RestingOrder
mine owner m = all_orders_of owner m.bids m.asks

all-mine : (owner : Address) (m : Market) → ((side : Side) → InBookOrder side (orders side m)) → All (IsMine owner m) (mine owner m)
all-mine owner m sorted =
    All-append (IsMine owner m) (orders_of owner Bid m.bids) (orders_of owner Ask m.asks)
    (All-weaker (IsOn owner Bid m.bids) (IsMine owner m) (on-mine owner Bid m) (orders_of owner Bid m.bids) (orders_of-on owner Bid m.bids (sorted Bid)))
    (All-weaker (IsOn owner Ask m.asks) (IsMine owner m) (on-mine owner Ask m) (orders_of owner Ask m.asks) (orders_of-on owner Ask m.asks (sorted Ask)))

all-apart : (owner : Address) (m : Market) → ((side : Side) → InBookOrder side (orders side m)) → AreApart (mine owner m)
all-apart owner m sorted =
    let bids : List RestingOrder = orders_of owner Bid m.bids in
    let asks : List RestingOrder = orders_of owner Ask m.asks in
    AreApart-append bids asks (orders_of-apart owner Bid m.bids (sorted Bid)) (orders_of-apart owner Ask m.asks (sorted Ask))
    (All-weaker (IsOn owner Bid m.bids) (λ (bid : RestingOrder). All (λ (ask : RestingOrder). is_same_order bid ask ≡ false) asks)
    (λ bid on. All-weaker (IsOn owner Ask m.asks) (λ (ask : RestingOrder). is_same_order bid ask ≡ false)
    (λ ask there. and_left (is_same_side bid.side ask.side) (eqb bid.order.id ask.order.id)
    (ap (λ s. is_same_side s ask.side) on.there ∙ ap (is_same_side Bid) there.there))
    asks (orders_of-on owner Ask m.asks (sorted Ask)))
    bids (orders_of-on owner Bid m.bids (sorted Bid)))

-- the oldest order of a client id is one of them
older-All : (P : RestingOrder → Type 0) (first : RestingOrder) (other : Option RestingOrder) → P first → ((o : RestingOrder) → other ≡ Some o → P o) → P (older first other)
older-All P first None here there = here
older-All P first (Some other) here there =
    cond_both (leb (age_of first) (age_of other)) first other P (λ is. here) (λ is. there other refl)

pub oldest-All : (P : RestingOrder → Type 0) (client : ℕ) (resting : List RestingOrder) → All P resting → (found : RestingOrder) → oldest client resting ≡ Some found → P found
oldest-All P client [] all found is = absurd (cc)
oldest-All P client (first ∷ others) all found is =
    ⊎_elim
    (λ (same : eqb first.order.client client ≡ true).
    let one : Some (older first (oldest client others)) ≡ Some found = sym (cond-true (eqb first.order.client client) (Some (older first (oldest client others))) (oldest client others) same) ∙ is in
    let equal : older first (oldest client others) ≡ found = cc in
    subst P equal (older-All P first (oldest client others) (All-head P first others all) (λ o there. oldest-All P client others (All-tail P first others all) o there)))
    (λ (apart : eqb first.order.client client ≡ false).
    oldest-All P client others (All-tail P first others all) found
    (sym (cond-false (eqb first.order.client client) (Some (older first (oldest client others))) (oldest client others) apart) ∙ is))
    (cases_Bool (eqb first.order.client client))

pub at_most_one-All : (P : RestingOrder → Type 0) (found : Option RestingOrder) → ((o : RestingOrder) → found ≡ Some o → P o) → All P (at_most_one found)
at_most_one-All P None each = All-nil P
at_most_one-All P (Some o) each = All-cons P o [] (each o refl) (All-nil P)

at_most_one-apart : (found : Option RestingOrder) → AreApart (at_most_one found)
at_most_one-apart None = tt
at_most_one-apart (Some o) = (All-nil (λ (other : RestingOrder). is_same_order o other ≡ false), tt)

-- the first n
take-apart : (count : ℕ) (resting : List RestingOrder) → AreApart resting → AreApart (take count resting)
take-apart zero resting apart = tt
take-apart (suc count) [] apart = tt
take-apart (suc count) (first ∷ others) apart =
    (All-take (λ (other : RestingOrder). is_same_order first other ≡ false) count others apart.0, take-apart count others apart.1)

-- what a list of client ids takes
pub taken_by-All : (P : RestingOrder → Type 0) (client : ℕ) (resting : List RestingOrder) → All P resting → (found : RestingOrder) → taken_by client resting ≡ Some found → P found
taken_by-All P client resting all found is =
    ⊎_elim
    (λ (zero_id : eqb client 0 ≡ true). let none : None ≡ Some found = sym (cond-true (eqb client 0) None (oldest client resting) zero_id) ∙ is in absurd (cc))
    (λ (some : eqb client 0 ≡ false). oldest-All P client resting all found (sym (cond-false (eqb client 0) None (oldest client resting) some) ∙ is))
    (cases_Bool (eqb client 0))

pub without_taken-All : (P : RestingOrder → Type 0) (gone : Option RestingOrder) (resting : List RestingOrder) → All P resting → All P (without_taken gone resting)
without_taken-All P None resting all = all
without_taken-All P (Some gone) [] all = all
without_taken-All P (Some gone) (first ∷ others) all =
    cond_both (is_same_order gone first) others (first ∷ without_taken (Some gone) others) (All P)
    (λ same. All-tail P first others all)
    (λ apart. All-cons P first (without_taken (Some gone) others) (All-head P first others all) (without_taken-All P (Some gone) others (All-tail P first others all)))

pub without_taken-apart : (gone : Option RestingOrder) (resting : List RestingOrder) → AreApart resting → AreApart (without_taken gone resting)
without_taken-apart None resting apart = apart
without_taken-apart (Some gone) [] apart = tt
without_taken-apart (Some gone) (first ∷ others) apart =
    cond_both (is_same_order gone first) others (first ∷ without_taken (Some gone) others) AreApart
    (λ same. apart.1)
    (λ away. (without_taken-All (λ (other : RestingOrder). is_same_order first other ≡ false) (Some gone) others apart.0, without_taken-apart (Some gone) others apart.1))

-- one that is the same as one is apart from what that is apart from
same-apart : (one same other : RestingOrder) → is_same_order one same ≡ true → is_same_order same other ≡ false → is_same_order one other ≡ false
same-apart one same other is apart =
    let parts : (is_same_side one.side same.side ≡ true) × (eqb one.order.id same.order.id ≡ true) = and_parts (is_same_side one.side same.side) (eqb one.order.id same.order.id) is in
    ap (λ s. is_same_side s other.side && eqb one.order.id other.order.id) (is_same_side-true one.side same.side parts.0)
    ∙ ap (λ i. is_same_side same.side other.side && eqb i other.order.id) (eqb-true one.order.id same.order.id parts.1)
    ∙ apart

without_taken-away : (gone : RestingOrder) (resting : List RestingOrder) → AreApart resting → All (λ (other : RestingOrder). is_same_order gone other ≡ false) (without_taken (Some gone) resting)
without_taken-away gone [] apart = All-nil _
without_taken-away gone (first ∷ others) apart =
    let IsAway : RestingOrder → Type 0 = λ other. is_same_order gone other ≡ false in
    cond_both (is_same_order gone first) others (first ∷ without_taken (Some gone) others) (All IsAway)
    (λ same. All-weaker (λ (other : RestingOrder). is_same_order first other ≡ false) IsAway (λ other away. same-apart gone first other same away) others apart.0)
    (λ away. All-cons IsAway first (without_taken (Some gone) others) away (without_taken-away gone others apart.1))

taken_by_all-All : (P : RestingOrder → Type 0) (clients : List ℕ) (resting : List RestingOrder) → All P resting → All P (taken_by_all clients resting)
taken_by_all-All P [] resting all = All-nil P
taken_by_all-All P (client ∷ clients) resting all =
    All-append P (at_most_one (taken_by client resting)) (taken_by_all clients (without_taken (taken_by client resting) resting))
    (at_most_one-All P (taken_by client resting) (taken_by-All P client resting all))
    (taken_by_all-All P clients (without_taken (taken_by client resting) resting) (without_taken-All P (taken_by client resting) resting all))

taken_by_all-apart : (clients : List ℕ) (resting : List RestingOrder) → AreApart resting → AreApart (taken_by_all clients resting)
taken_by_all-apart [] resting apart = tt
taken_by_all-apart (client ∷ clients) resting apart =
    joined (taken_by client resting) clients resting apart (taken_by_all-apart clients (without_taken (taken_by client resting) resting) (without_taken-apart (taken_by client resting) resting apart))
  where
    joined : (found : Option RestingOrder) (clients : List ℕ) (resting : List RestingOrder) → AreApart resting
        → AreApart (taken_by_all clients (without_taken found resting)) → AreApart (at_most_one found ++ taken_by_all clients (without_taken found resting))
    joined None clients resting apart rest = rest
    joined (Some gone) clients resting apart rest =
        (taken_by_all-All (λ (other : RestingOrder). is_same_order gone other ≡ false) clients (without_taken (Some gone) resting) (without_taken-away gone resting apart), rest)

-- what an id takes
on_side-All : (P : RestingOrder → Type 0) (side : Side) (found : Option Order) → ((o : Order) → found ≡ Some o → P (record { side = side; order = o })) → All P (on_side side found)
on_side-All P side None each = All-nil P
on_side-All P side (Some o) each = All-cons P (record { side = side; order = o }) [] (each o refl) (All-nil P)

on_side-apart : (side : Side) (found : Option Order) → AreApart (on_side side found)
on_side-apart side None = tt
on_side-apart side (Some o) = (All-nil (λ (other : RestingOrder). is_same_order (record { side = side; order = o }) other ≡ false), tt)

id-rests : (side : Side) (id : ℕ) (m : Market) (order : Order) → order_with id (orders side m) ≡ Some order → Rests (record { side = side; order = order }) m
id-rests side id m order found = ap (λ i. order_with i (orders side m)) (found-id id order (orders side m) found) ∙ found

-- what any cancel takes rests, each order once
pub cancelled-rests : (by : CancelBy) (owner : Address) (m : Market) → ((side : Side) → InBookOrder side (orders side m))
    → All (λ (gone : RestingOrder). Rests gone m) (cancelled by owner m.bids m.asks)
cancelled-rests (ById side id) owner m sorted =
    on_side-All (λ (gone : RestingOrder). Rests gone m) side (order_with id (orders side m)) (λ order found. id-rests side id m order found)
cancelled-rests (ByClient client) owner m sorted =
    at_most_one-All (λ (gone : RestingOrder). Rests gone m) (oldest client (mine owner m))
    (oldest-All (λ (gone : RestingOrder). Rests gone m) client (mine owner m) (All-weaker (IsMine owner m) (λ (gone : RestingOrder). Rests gone m) (λ o is. is.rests) (mine owner m) (all-mine owner m sorted)))
cancelled-rests (ByClients clients) owner m sorted =
    taken_by_all-All (λ (gone : RestingOrder). Rests gone m) clients (mine owner m)
    (All-weaker (IsMine owner m) (λ (gone : RestingOrder). Rests gone m) (λ o is. is.rests) (mine owner m) (all-mine owner m sorted))
cancelled-rests (First count) owner m sorted =
    All-take (λ (gone : RestingOrder). Rests gone m) count (mine owner m)
    (All-weaker (IsMine owner m) (λ (gone : RestingOrder). Rests gone m) (λ o is. is.rests) (mine owner m) (all-mine owner m sorted))

pub cancelled-apart : (by : CancelBy) (owner : Address) (m : Market) → ((side : Side) → InBookOrder side (orders side m)) → AreApart (cancelled by owner m.bids m.asks)
cancelled-apart (ById side id) owner m sorted = on_side-apart side (order_with id (orders side m))
cancelled-apart (ByClient client) owner m sorted = at_most_one-apart (oldest client (mine owner m))
cancelled-apart (ByClients clients) owner m sorted = taken_by_all-apart clients (mine owner m) (all-apart owner m sorted)
cancelled-apart (First count) owner m sorted = take-apart count (mine owner m) (all-apart owner m sorted)

-- after one order left, another rests as before
pub rests-after : (gone other : RestingOrder) (m : Market) → is_same_order gone other ≡ false → Rests other m → Rests other (cancel_one gone m)
rests-after gone other m apart rests =
    both-sides gone.side other.side gone.order.id other.order.id m apart ∙ rests
  where
    both-sides : (side there : Side) (id other : ℕ) (m : Market) → (is_same_side side there && eqb id other) ≡ false
        → order_with other (orders there (with_sides side (without_order id (orders side m)) (orders (opposite side) m) m)) ≡ order_with other (orders there m)
    both-sides Bid Bid id other m apart = order_with-without other id m.bids apart
    both-sides Bid Ask id other m apart = refl
    both-sides Ask Bid id other m apart = refl
    both-sides Ask Ask id other m apart = order_with-without other id m.asks apart

-- so cancels of orders that rest, each once, keep a market sound, where the event queue has room for their outs
pub cancels-sound : (gone : List RestingOrder) (m : Market) → All (λ (order : RestingOrder). Rests order m) gone → AreApart gone
    → length m.events + length gone ≤ m.listing.event_capacity → IsSoundByPlace m → IsSoundByPlace (after_cancels gone m)
cancels-sound [] m rests apart room sound = sound
cancels-sound (first ∷ gone) m rests apart room sound =
    let IsHere : RestingOrder → Type 0 = λ order. Rests order m in
    let later : All (λ (order : RestingOrder). Rests order (cancel_one first m)) gone =
    both first gone m apart.0 (All-tail IsHere first gone rests) in
    cancels-sound gone (cancel_one first m) later apart.1 (omega (arith, length-append m.events (releasing_out first.side m.listing.sizes first.order first.order.lots ∷ [])))
    (cancel_one-sound first m (All-head IsHere first gone rests) (omega arith) sound)
  where
    both : (first : RestingOrder) (gone : List RestingOrder) (m : Market) → All (λ (other : RestingOrder). is_same_order first other ≡ false) gone → All (λ (order : RestingOrder). Rests order m) gone
        → All (λ (order : RestingOrder). Rests order (cancel_one first m)) gone
    both first [] m apart rests = All-nil _
    both first (other ∷ gone) m apart rests =
        let IsAway : RestingOrder → Type 0 = λ other. is_same_order first other ≡ false in
        let IsHere : RestingOrder → Type 0 = λ order. Rests order m in
        All-cons (λ (order : RestingOrder). Rests order (cancel_one first m)) other gone
        (rests-after first other m (All-head IsAway other gone apart) (All-head IsHere other gone rests))
        (both first gone m (All-tail IsAway other gone apart) (All-tail IsHere other gone rests))

-- and it is the owner's, where an id names an order of the owner
mine-own : (owner : Address) (m : Market) → ((side : Side) → InBookOrder side (orders side m)) → All (λ (gone : RestingOrder). is_same owner gone.order.owner ≡ true) (mine owner m)
mine-own owner m sorted =
    All-weaker (IsMine owner m) (λ (gone : RestingOrder). is_same owner gone.order.owner ≡ true) (λ o is. is.own) (mine owner m) (all-mine owner m sorted)

not_yours-none : (owner : Address) (found : Option Order) (order : Order) → not_yours owner found ≡ None → found ≡ Some order → is_same owner order.owner ≡ true
not_yours-none owner None order none is = absurd (cc)
not_yours-none owner (Some other) order none is =
    let same : other ≡ order = cc in
    subst (λ (o : Order). is_same owner o.owner ≡ true) same (not-false (is_same owner other.owner) (refused_where-none (not (is_same owner other.owner)) (refusal.OrderNotYours other.owner) none))

pub cancelled-own : (by : CancelBy) (owner : Address) (m : Market) → ((side : Side) → InBookOrder side (orders side m)) → why_unnamed by owner m.bids m.asks (cancelled by owner m.bids m.asks) ≡ None
    → All (λ (gone : RestingOrder). is_same owner gone.order.owner ≡ true) (cancelled by owner m.bids m.asks)
cancelled-own (ById side id) owner m sorted none =
    let parts = first_of-none (not_resting (order_with id (orders side m)) (order_with id (orders (opposite side) m)) ∷ not_yours owner (order_with id (orders side m)) ∷ []) none in
    on_side-All (λ (gone : RestingOrder). is_same owner gone.order.owner ≡ true) side (order_with id (orders side m))
    (λ order found. not_yours-none owner (order_with id (orders side m)) order parts.1.0 found)
cancelled-own (ByClient client) owner m sorted none =
    at_most_one-All (λ (gone : RestingOrder). is_same owner gone.order.owner ≡ true) (oldest client (mine owner m))
    (oldest-All (λ (gone : RestingOrder). is_same owner gone.order.owner ≡ true) client (mine owner m) (mine-own owner m sorted))
cancelled-own (ByClients clients) owner m sorted none =
    taken_by_all-All (λ (gone : RestingOrder). is_same owner gone.order.owner ≡ true) clients (mine owner m) (mine-own owner m sorted)
cancelled-own (First count) owner m sorted none =
    All-take (λ (gone : RestingOrder). is_same owner gone.order.owner ≡ true) count (mine owner m) (mine-own owner m sorted)

-- so what a cancel that is not refused takes is the owner's, rests, and is taken once
pub cancelled-taken : (by : CancelBy) (owner : Address) (m : Market) → IsSound m → why_cancelled by owner m ≡ None → AreOwnResting owner m (cancelled by owner m.bids m.asks)
cancelled-taken by owner m sound none =
    let gone = cancelled by owner m.bids m.asks in
    let parts = first_of-none (why_unnamed by owner m.bids m.asks gone ∷ queue_full (length gone) m ∷ []) none in
    record {
      resting = cancelled-rests by owner m sound.form.in_order;
      own = cancelled-own by owner m sound.form.in_order parts.0;
      apart = cancelled-apart by owner m sound.form.in_order;
    }

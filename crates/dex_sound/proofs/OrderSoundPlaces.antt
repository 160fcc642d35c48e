-- a new order leaves slots that agree with what rests and waits
use Rattle.std.proofs.Common.{ℕ, ◌+◌, ◌^◌, ◌≤◌, ◌<◌, ◌≡◌, ◌⊎◌, ⊎_elim, inl, inr, Bool, true, false, ◌&&◌, cond, eqb, List, [], ◌∷◌, ◌++◌, Option, Some, None, length, refl, sym, ap, ◌∙◌, subst, arith}
use Rattle.std.specs.List.{All}
use Rattle.std.proofs.lemmas.Bool.{cases_Bool, cond_both, cond-true, cond-false, eqb-true, eq-eqb, and_parts, and_from}
use Rattle.std.proofs.lemmas.List.Elements.{All-head, All-tail, All-append, All-weaker}
use Rattle.dex_types.specs.declared.addresses.Address.{Address}
use Rattle.dex_types.specs.declared.orders.Order.{Order}
use Rattle.dex_types.specs.declared.terms.Lots.{Lots}
use Rattle.dex_types.specs.declared.terms.Side.{Side}
use Rattle.dex_types.specs.Addresses.{is_same}
use Rattle.dex_types.specs.Market.{Market, orders, capacity}
use Rattle.dex_types.specs.Meeting.{TakerTerms, Demand, Meeting, event_of, plain_out}
use Rattle.dex_types.specs.NewOrder.{NewOrder, Ordering, order_on, account_after, terms_of, demand_of, taker_events, last_events, got, spent, fee_of, held}
use Rattle.dex_types.specs.Posting.{post, last_of}
use Rattle.dex_types.specs.QueuedEvent.{QueuedEvent, TakerFill}
use Rattle.dex_types.specs.Side.{opposite, sequence_of}
use Rattle.dex_types.specs.Soundness.{IsWellFormed, held_at, held_by, order_holding, event_holding}
use Rattle.dex_types.specs.Trader.{Account, Holding, Open, Traders, trader_at, free_slot}
use Rattle.dex_laws.proofs.BookLaws.{All-post}
use Rattle.dex_laws.proofs.IdLaws.{sequence_of-id_of}
use Rattle.dex_laws.proofs.LockLaws.{meet-places, post-places}
use Rattle.dex_laws.proofs.PostLaws.{post-induction}
use Rattle.dex_laws.proofs.TotalLaws.{total-append, total-none}
use Rattle.dex_laws.proofs.TraderLaws.{free_slot-free, is_same-true, is_same-refl}
use Rattle.dex_sound.specs.Places.{PlacesAgree, EndLast, HoldOnce, rests_at, ends_here, ends_at, is_taken}
use Rattle.dex_sound.proofs.MeetPlaces.{counts-sides, is_taken-le, NoneEnds, EndLast-behind, ends-freed, meet-rested, meet-ends_last}
use Rattle.dex_sound.proofs.MeetSides.{IsResting, IsPending, priced, resting-left, pending-met}
use Rattle.dex_sound.proofs.MeetSums.{last-each, taker-each}
use Rattle.dex_sound.proofs.OrderSoundFunds.{ordered_market, total-ordered}
use Rattle.dex_sound.proofs.PlaceParts.{sides-hold, put-sides-sum, rests-itself}
use Rattle.dex_sound.proofs.TraderSums.{held_at-put_slot}

-- what the slot of a new order holds
abbrev new_holding : Side → Market → Account → NewOrder → Holding
new_holding side m account n = held side (order_on side m account n)

-- an account at the order's owner, with a free slot
pub record HasRoom (m : Market) (account : Account) (n : NewOrder) : Type 0 where
  pub found : trader_at n.owner m.traders ≡ Some (Open account)
  pub free : free_slot account.slots < length account.slots

-- what each place holds after the order
held-after : (side : Side) (m : Market) (account : Account) (n : NewOrder) → HasRoom m account n → (owner : Address) (at : ℕ)
    → held_at owner at (ordered_market side m account n).traders
    ≡ cond (is_same owner n.owner && eqb at (free_slot account.slots)) (Some (new_holding side m account n)) (held_at owner at m.traders)
held-after side m account n room =
    held_at-put_slot n.owner (free_slot account.slots) (Some (new_holding side m account n)) account
    (account_after side m.listing.sizes n (order_on side m account n) account) m.traders room.found room.free refl

-- the slot was free
held-before : (m : Market) (account : Account) (n : NewOrder) → HasRoom m account n → held_at n.owner (free_slot account.slots) m.traders ≡ None
held-before m account n room =
    ap (λ t. held_by t (free_slot account.slots)) room.found ∙ free_slot-free account.slots None room.free

free-place : (m : Market) (account : Account) (n : NewOrder) → HasRoom m account n → (owner : Address) (at : ℕ)
    → (is_same owner n.owner && eqb at (free_slot account.slots)) ≡ true → held_at owner at m.traders ≡ None
free-place m account n room owner at here =
    let parts = and_parts (is_same owner n.owner) (eqb at (free_slot account.slots)) here in
    ap (λ a. held_at a at m.traders) (is_same-true owner n.owner parts.0) ∙ ap (λ s. held_at n.owner s m.traders) (eqb-true at (free_slot account.slots) parts.1)
    ∙ held-before m account n room

-- so what was held is held still
held-still : (side : Side) (m : Market) (account : Account) (n : NewOrder) → HasRoom m account n → (owner : Address) (at : ℕ) (holding : Holding)
    → held_at owner at m.traders ≡ Some holding → held_at owner at (ordered_market side m account n).traders ≡ Some holding
held-still side m account n room owner at holding was =
    let test : Bool = is_same owner n.owner && eqb at (free_slot account.slots) in
    ⊎_elim
    (λ (here : test ≡ true).
    let place : held_at owner at m.traders ≡ None = free-place m account n room owner at here in absurd cc)
    (λ (away : test ≡ false). held-after side m account n room owner at ∙ cond-false test _ _ away ∙ was)
    (cases_Bool test)

-- and the new order is held at its place
held-new : (side : Side) (m : Market) (account : Account) (n : NewOrder) → HasRoom m account n
    → held_at n.owner (free_slot account.slots) (ordered_market side m account n).traders ≡ Some (new_holding side m account n)
held-new side m account n room =
    held-after side m account n room n.owner (free_slot account.slots)
    ∙ cond-true _ _ _ (and_from _ _ (is_same-refl n.owner) (eq-eqb (free_slot account.slots) (free_slot account.slots) refl))

-- what is held after the order is the order, at its place, or was held before it
held-either : (side : Side) (m : Market) (account : Account) (n : NewOrder) → HasRoom m account n → (owner : Address) (at : ℕ) (holding : Holding)
    → held_at owner at (ordered_market side m account n).traders ≡ Some holding
    → ((owner ≡ n.owner) × (at ≡ free_slot account.slots) × (holding ≡ new_holding side m account n)) ⊎ (held_at owner at m.traders ≡ Some holding)
held-either side m account n room owner at holding is =
    let test : Bool = is_same owner n.owner && eqb at (free_slot account.slots) in
    let after = held-after side m account n room owner at in
    ⊎_elim
    (λ (here : test ≡ true).
    let parts = and_parts (is_same owner n.owner) (eqb at (free_slot account.slots)) here in
    let both : Some holding ≡ Some (new_holding side m account n) = sym is ∙ after ∙ cond-true test _ _ here in
    inl (is_same-true owner n.owner parts.0, eqb-true at (free_slot account.slots) parts.1, cc))
    (λ (away : test ≡ false). inr (sym (cond-false test _ _ away) ∙ sym after ∙ is))
    (cases_Bool test)

-- sequence numbers: the new order has the next one, and no other has it
order-given : (side : Side) (m : Market) (account : Account) (n : NewOrder) → m.next_sequence < 2 ^ 64 → HasRoom m account n → PlacesAgree m
    → (owner : Address) (at : ℕ) (holding : Holding) → held_at owner at (ordered_market side m account n).traders ≡ Some holding
    → sequence_of holding.side holding.id < m.next_sequence + 1
order-given side m account n small room agree owner at holding is =
    ⊎_elim
    (λ (new : (owner ≡ n.owner) × (at ≡ free_slot account.slots) × (holding ≡ new_holding side m account n)).
    omega (arith, ap (λ (h : Holding). sequence_of h.side h.id) new.2, sequence_of-id_of side n.price m.next_sequence small))
    (λ (old : held_at owner at m.traders ≡ Some holding). omega (arith, agree.given owner at holding old))
    (held-either side m account n room owner at holding is)

order-once : (side : Side) (m : Market) (account : Account) (n : NewOrder) → m.next_sequence < 2 ^ 64 → HasRoom m account n → PlacesAgree m
    → HoldOnce (ordered_market side m account n).traders
order-once side m account n small room agree owner other slot at holding same here there ages =
    let next = sequence_of-id_of side n.price m.next_sequence small in
    ⊎_elim
    (λ (new : (owner ≡ n.owner) × (slot ≡ free_slot account.slots) × (holding ≡ new_holding side m account n)).
    ⊎_elim
    (λ (also : (other ≡ n.owner) × (at ≡ free_slot account.slots) × (same ≡ new_holding side m account n)). (new.0 ∙ sym also.0, new.1 ∙ sym also.1))
    (λ (old : held_at other at m.traders ≡ Some same).
    absurd (omega (arith, ages, ap (λ (h : Holding). sequence_of h.side h.id) new.2, next, agree.given other at same old)))
    (held-either side m account n room other at same there))
    (λ (old : held_at owner slot m.traders ≡ Some holding).
    ⊎_elim
    (λ (new : (other ≡ n.owner) × (at ≡ free_slot account.slots) × (same ≡ new_holding side m account n)).
    absurd (omega (arith, ages, ap (λ (h : Holding). sequence_of h.side h.id) new.2, next, agree.given owner slot holding old)))
    (λ (also : held_at other at m.traders ≡ Some same). agree.once owner other slot at holding same old also ages)
    (held-either side m account n room other at same there))
    (held-either side m account n room owner slot holding here)

-- what holds of each order that stood holds of the one that had to leave
pub All-booted : (P : Order → Type 0) (side : Side) (room : ℕ) (order : Order) (standing : List Order) → All P standing
    → (gone : Order) → (post side room order standing).booted ≡ Some gone → P gone
All-booted P side room order standing all gone =
    post-induction side room order standing (λ posting. posting.booted ≡ Some gone → P gone)
    (λ none is. absurd cc) (λ some space is. absurd cc) (λ some full is. All-last P standing all gone is)
  where
    All-last : (P : Order → Type 0) (standing : List Order) → All P standing → (gone : Order) → last_of standing ≡ Some gone → P gone
    All-last P [] all gone is = absurd cc
    All-last P (order ∷ []) all gone is = let same : order ≡ gone = cc in subst P same (All-head P order [] all)
    All-last P (order ∷ next ∷ others) all gone is = All-last P (next ∷ others) (All-tail P order (next ∷ others) all) gone is

-- so orders that stood are held by their slots still
resting-still : (side : Side) (m : Market) (account : Account) (n : NewOrder) → HasRoom m account n → PlacesAgree m
    → (each : Side) → All (IsResting (ordered_market side m account n).traders each) (orders each m)
resting-still side m account n room agree each =
    All-weaker (IsResting m.traders each) (IsResting (ordered_market side m account n).traders each)
    (λ order is. held-still side m account n room order.owner order.slot (order_holding each order) is) (orders each m) (agree.resting each)

-- each resting order is held by its slot: what is left of the met side, what stood, and the new order
order-resting : (side : Side) (m : Market) (account : Account) (n : NewOrder) → HasRoom m account n → PlacesAgree m
    → (each : Side) → All (IsResting (ordered_market side m account n).traders each) (orders each (ordered_market side m account n))
order-resting side m account n room agree =
    let o : Ordering = order_on side m account n in
    let after : Traders = (ordered_market side m account n).traders in
    let still : (each : Side) → All (IsResting after each) (orders each m) = resting-still side m account n room agree in
    sides-hold (λ each list. All (IsResting after each) list) side o.posting.side o.met.left m
    (All-post (IsResting after side) side (capacity side m) o.order (orders side m) (λ some. held-new side m account n room) (still side))
    (resting-left after (opposite side) side (terms_of m.listing.sizes n) (demand_of side m.listing.sizes n) (orders (opposite side) m) (still (opposite side)))

-- each pending event is held by the slot of its order
order-pending : (side : Side) (m : Market) (account : Account) (n : NewOrder) → HasRoom m account n → PlacesAgree m
    → All (IsPending (ordered_market side m account n).traders) (ordered_market side m account n).events
order-pending side m account n room agree =
    let o : Ordering = order_on side m account n in
    let sizes : Lots = m.listing.sizes in
    let after : Traders = (ordered_market side m account n).traders in
    let still : (each : Side) → All (IsResting after each) (orders each m) = resting-still side m account n room agree in
    let taker : List QueuedEvent = taker_events side sizes n o.met o.order in
    let last : List QueuedEvent = last_events side sizes o.order o.posting.booted in
    let new : held_at n.owner (free_slot account.slots) after ≡ Some (new_holding side m account n) = held-new side m account n room in
    All-append (IsPending after) m.events o.events
    (All-weaker (IsPending m.traders) (IsPending after) (λ event is. held-still side m account n room event.owner event.slot (event_holding event) is) m.events agree.pending)
    (All-append (IsPending after) (o.met.events ++ taker) last
    (All-append (IsPending after) o.met.events taker
    (pending-met after side (terms_of sizes n) (demand_of side sizes n) (orders (opposite side) m) (still (opposite side)))
    (taker-each (IsPending after) side sizes n o.met o.order new))
    (last-each (IsPending after) side sizes o.order o.posting.booted (λ none. new)
    (λ gone is. All-booted (IsResting after side) side (capacity side m) o.order (orders side m) (still side) gone is)))

-- a taker's fill ends no place
taker-ends : (owner : Address) (slot : ℕ) (side : Side) (sizes : Lots) (n : NewOrder) (met : Meeting) (order : Order)
    → ends_at owner slot (taker_events side sizes n met order) ≡ 0
taker-ends owner slot side sizes n met order =
    total-none (ends_here owner slot) (taker_events side sizes n met order) (taker-each (λ (e : QueuedEvent). ends_here owner slot e ≡ 0) side sizes n met order refl)

-- one more is held where the free slot is taken
taken-more : (test : Bool) (before : Option Holding) (new : Holding) → (test ≡ true → before ≡ None)
    → is_taken (cond test (Some new) before) ≡ is_taken before + cond test 1 0
taken-more true before new free = sym (ap (λ b. is_taken b + 1) (free refl))
taken-more false before new free = omega arith

-- of each place: as many orders rest and end as are held
order-counts : (side : Side) (m : Market) (account : Account) (n : NewOrder) → IsWellFormed m → HasRoom m account n → PlacesAgree m → (owner : Address) (slot : ℕ)
    → rests_at owner slot (ordered_market side m account n).bids + rests_at owner slot (ordered_market side m account n).asks
    + ends_at owner slot (ordered_market side m account n).events ≡ is_taken (held_at owner slot (ordered_market side m account n).traders)
order-counts side m account n form room agree owner slot =
    let o : Ordering = order_on side m account n in
    let sizes : Lots = m.listing.sizes in
    let opposing : List Order = orders (opposite side) m in
    let test : Bool = is_same owner n.owner && eqb slot (free_slot account.slots) in
    let last : List QueuedEvent = last_events side sizes o.order o.posting.booted in
    let more : is_taken (held_at owner slot (ordered_market side m account n).traders) ≡ is_taken (held_at owner slot m.traders) + cond test 1 0 =
    ap is_taken (held-after side m account n room owner slot)
    ∙ taken-more test (held_at owner slot m.traders) (new_holding side m account n) (λ here. free-place m account n room owner slot here) in
    omega (
      arith,
      more,
      counts-sides side m agree owner slot,
      put-sides-sum (rests_at owner slot) side o.posting.side o.met.left m,
      total-ordered (ends_here owner slot) side m account n,
      meet-places owner slot side (terms_of sizes n) form.coin_lot form.pc_lot (demand_of side sizes n) opposing (priced (opposite side) sizes opposing (form.proper (opposite side))),
      post-places owner slot side sizes (capacity side m) o.order (orders side m) (form.room side),
      ends-freed owner slot o.met.events,
      ends-freed owner slot last,
      taker-ends owner slot side sizes n o.met o.order,
    )

-- an event of the order itself, or of one that stood on its side, comes after no end of its place: neither among events
-- that were pending nor among those of the meeting
abbrev IsBehindNone : Side → Market → Account → NewOrder → Address → ℕ → Type 0
IsBehindNone side m account n owner slot = (ends_at owner slot m.events ≡ 0) × (ends_at owner slot (order_on side m account n).met.events ≡ 0)

behind-none : (side : Side) (m : Market) (account : Account) (n : NewOrder) → IsWellFormed m → PlacesAgree m → (owner : Address) (slot : ℕ)
    → is_taken (held_at owner slot m.traders) ≤ rests_at owner slot (orders side m) → IsBehindNone side m account n owner slot
behind-none side m account n form agree owner slot enough =
    let o : Ordering = order_on side m account n in
    let sizes : Lots = m.listing.sizes in
    let opposing : List Order = orders (opposite side) m in
    let counts = counts-sides side m agree owner slot in
    let places = meet-places owner slot side (terms_of sizes n) form.coin_lot form.pc_lot (demand_of side sizes n) opposing
    (priced (opposite side) sizes opposing (form.proper (opposite side))) in
    (omega (arith, counts), omega (arith, counts, places, ends-freed owner slot o.met.events))

-- so it is with the taker's fill and the last event
behind-own : (side : Side) (m : Market) (account : Account) (n : NewOrder) → IsWellFormed m → HasRoom m account n → PlacesAgree m
    → IsBehindNone side m account n n.owner (free_slot account.slots)
behind-own side m account n form room agree =
    behind-none side m account n form agree n.owner (free_slot account.slots) (omega (arith, ap is_taken (held-before m account n room)))

behind-taker : (side : Side) (m : Market) (account : Account) (n : NewOrder) → IsWellFormed m → HasRoom m account n → PlacesAgree m
    → All (λ (e : QueuedEvent). IsBehindNone side m account n e.owner e.slot)
    (taker_events side m.listing.sizes n (order_on side m account n).met (order_on side m account n).order)
behind-taker side m account n form room agree =
    taker-each (λ (e : QueuedEvent). IsBehindNone side m account n e.owner e.slot) side m.listing.sizes n (order_on side m account n).met (order_on side m account n).order
    (behind-own side m account n form room agree)

behind-last : (side : Side) (m : Market) (account : Account) (n : NewOrder) → IsWellFormed m → HasRoom m account n → PlacesAgree m
    → All (λ (e : QueuedEvent). IsBehindNone side m account n e.owner e.slot)
    (last_events side m.listing.sizes (order_on side m account n).order (order_on side m account n).posting.booted)
behind-last side m account n form room agree =
    let o : Ordering = order_on side m account n in
    last-each (λ (e : QueuedEvent). IsBehindNone side m account n e.owner e.slot) side m.listing.sizes o.order o.posting.booted
    (λ none. behind-own side m account n form room agree)
    (λ gone is.
    let rests : 1 ≤ rests_at gone.owner gone.slot (orders side m) =
    All-booted (λ (order : Order). 1 ≤ rests_at order.owner order.slot (orders side m)) side (capacity side m) o.order (orders side m) (rests-itself (orders side m)) gone is in
    behind-none side m account n form agree gone.owner gone.slot (omega (arith, rests, is_taken-le (held_at gone.owner gone.slot m.traders))))

-- one event is after none
taker-ends_last : (side : Side) (sizes : Lots) (n : NewOrder) (met : Meeting) (order : Order) → EndLast (taker_events side sizes n met order)
taker-ends_last side sizes n met order =
    cond_both (eqb met.pc 0) [] (event_of (TakerFill side) order (got side sizes n met) (spent side sizes n met) (fee_of n met) ∷ []) EndLast
    (λ none. tt) (λ some. ((λ final. tt), tt))

last-ends_last : (side : Side) (sizes : Lots) (order : Order) (booted : Option Order) → EndLast (last_events side sizes order booted)
last-ends_last side sizes order None = cond_both (eqb order.lots 0) (plain_out side order ∷ []) [] EndLast (λ none. ((λ final. tt), tt)) (λ some. tt)
last-ends_last side sizes order (Some gone) = ((λ final. tt), tt)

-- no event comes after the end of its order
order-last : (side : Side) (m : Market) (account : Account) (n : NewOrder) → IsWellFormed m → HasRoom m account n → PlacesAgree m
    → EndLast (ordered_market side m account n).events
order-last side m account n form room agree =
    let o : Ordering = order_on side m account n in
    let sizes : Lots = m.listing.sizes in
    let opposing : List Order = orders (opposite side) m in
    let terms : TakerTerms = terms_of sizes n in
    let wants : Demand = demand_of side sizes n in
    let taker : List QueuedEvent = taker_events side sizes n o.met o.order in
    let last : List QueuedEvent = last_events side sizes o.order o.posting.booted in
    let IsBehind : QueuedEvent → Type 0 = λ e. IsBehindNone side m account n e.owner e.slot in
    let counts = counts-sides side m agree in
    EndLast-behind m.events (o.met.events ++ taker ++ last) agree.last
    (EndLast-behind (o.met.events ++ taker) last
    (EndLast-behind o.met.events taker
    (meet-ends_last side terms wants opposing (λ owner slot. omega (arith, counts owner slot, is_taken-le (held_at owner slot m.traders))))
    (taker-ends_last side sizes n o.met o.order)
    (All-weaker IsBehind (NoneEnds o.met.events) (λ e none. none.1) taker (behind-taker side m account n form room agree)))
    (last-ends_last side sizes o.order o.posting.booted)
    (All-weaker IsBehind (NoneEnds (o.met.events ++ taker))
    (λ e none. omega (arith, none.1, taker-ends e.owner e.slot side sizes n o.met o.order, total-append (ends_here e.owner e.slot) o.met.events taker))
    last (behind-last side m account n form room agree)))
    (All-append (NoneEnds m.events) (o.met.events ++ taker) last
    (All-append (NoneEnds m.events) o.met.events taker
    (All-weaker (λ (e : QueuedEvent). 1 ≤ rests_at e.owner e.slot opposing) (NoneEnds m.events)
    (λ e rests. omega (arith, rests, counts e.owner e.slot, is_taken-le (held_at e.owner e.slot m.traders)))
    o.met.events (meet-rested side terms wants opposing))
    (All-weaker IsBehind (NoneEnds m.events) (λ e none. none.0) taker (behind-taker side m account n form room agree)))
    (All-weaker IsBehind (NoneEnds m.events) (λ e none. none.0) last (behind-last side m account n form room agree)))

-- the slots of a market after a new order
pub order-places : (side : Side) (m : Market) (account : Account) (n : NewOrder) → IsWellFormed m → HasRoom m account n → PlacesAgree m
    → PlacesAgree (ordered_market side m account n)
order-places side m account n form room agree = record {
  resting = order-resting side m account n room agree;
  pending = order-pending side m account n room agree;
  counts = order-counts side m account n form room agree;
  last = order-last side m account n form room agree;
  given = order-given side m account n form.sequence room agree;
  once = order-once side m account n form.sequence room agree;
}

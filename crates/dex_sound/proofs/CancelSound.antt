-- a cancel of a resting order keeps a market sound
use Rattle.std.proofs.Common.{ℕ, ◌+◌, ◌-◌, ◌≤◌, ◌<◌, ◌≡◌, ◌^◌, Bool, true, false, ◌&&◌, cond, List, [], ◌∷◌, ◌++◌, Some, length, refl, ap, ◌∙◌, arith, length-append}
use Rattle.std.specs.List.{All}
use Rattle.std.proofs.lemmas.Bool.{eq-eqb}
use Rattle.std.proofs.lemmas.Nat.{mod_below}
use Rattle.std.proofs.lemmas.List.Elements.{All-append, All-cons, All-nil, All-weaker}
use Rattle.dex_types.specs.declared.addresses.Address.{Address}
use Rattle.dex_types.specs.declared.orders.Order.{Order}
use Rattle.dex_types.specs.declared.terms.Lots.{Lots}
use Rattle.dex_types.specs.declared.terms.Side.{Side}
use Rattle.dex_types.specs.declared.terms.Side.TheVariants.{Bid, Ask}
use Rattle.dex_types.specs.Addresses.{is_same}
use Rattle.dex_types.specs.Cancel.{RestingOrder, without_order, cancel_one}
use Rattle.dex_types.specs.Market.{Market, orders, capacity}
use Rattle.dex_types.specs.Meeting.{releasing_out}
use Rattle.dex_types.specs.Owed.{order_lock, owed, kept, referred, leaving, is_order_of, is_event_of}
use Rattle.dex_types.specs.Posting.{InBookOrder}
use Rattle.dex_types.specs.QueuedEvent.{QueuedEvent}
use Rattle.dex_types.specs.Side.{Token, Coin, Pc, opposite, lock, price_of}
use Rattle.dex_types.specs.Solvency.{all_locked, own_locked}
use Rattle.dex_types.specs.Soundness.{IsProper, IsWellFormed, FundsAgree, held_at, order_holding, event_holding, is_final}
use Rattle.dex_types.specs.Totals.{weighed_where}
use Rattle.dex_laws.specs.Places.{is_order_at, is_event_at}
use Rattle.dex_laws.proofs.LockLaws.{lock-none}
use Rattle.dex_laws.proofs.TotalLaws.{total-append}
use Rattle.dex_sound.specs.Cancels.{Rests}
use Rattle.dex_sound.specs.Places.{rests_at, ends_here, ends_at, is_taken, AreElsewhere, PlacesAgree, IsSoundByPlace}
use Rattle.dex_sound.proofs.PlaceParts.{sides-hold, sides-sum, put-sides-sum, resting-unended, unended-each, elsewhere-turned, EndLast-append}
use Rattle.dex_sound.proofs.WithoutLaws.{found-All, total-without, length-without, All-without, InBookOrder-without_order}

-- a resting order, with its side
abbrev resting_on : Side → Order → RestingOrder
resting_on side order = record { side = side; order = order }

-- its out when it is cancelled
abbrev out_of : Side → Order → Market → QueuedEvent
out_of side order m = releasing_out side m.listing.sizes order order.lots

-- the orders of its side that stay
abbrev left_on : Side → Order → Market → List Order
left_on side order m = without_order order.id (orders side m)

-- an out of all lots is the last of its order
out-final : (side : Side) (sizes : Lots) (order : Order) → is_final (releasing_out side sizes order order.lots) ≡ true
out-final side sizes order =
    let nothing : order.lots - order.lots ≡ 0 = omega arith in
    eq-eqb (lock side sizes (price_of order.id) (order.lots - order.lots)) 0 (ap (lock side sizes (price_of order.id)) nothing ∙ lock-none side sizes (price_of order.id))

-- the parts
cancel-form : (side : Side) (order : Order) (m : Market) → Rests (resting_on side order) m → length m.events < m.listing.event_capacity
    → IsWellFormed m → IsWellFormed (cancel_one (resting_on side order) m)
cancel-form side order m rests room form =
    let own : List Order = left_on side order m in
    let opposing : List Order = orders (opposite side) m in
    record {
      mints = form.mints;
      coin_lot = form.coin_lot;
      pc_lot = form.pc_lot;
      room = form.room;
      in_order = sides-hold InBookOrder side own opposing m (InBookOrder-without_order side order.id (orders side m) (form.in_order side)) (form.in_order (opposite side));
      proper = sides-hold (λ s os. All (IsProper s m.listing.sizes) os) side own opposing m
          (All-without (IsProper side m.listing.sizes) order.id (orders side m) (form.proper side)) (form.proper (opposite side));
      within = sides-hold (λ s os. length os ≤ capacity s m) side own opposing m
          (omega (arith, length-without order.id order (orders side m) rests, form.within side)) (form.within (opposite side));
      events_within = omega (arith, length-append m.events (out_of side order m ∷ []));
      tiers = All-append (λ (event : QueuedEvent). event.tier < 7) m.events (out_of side order m ∷ []) form.tiers
          (All-cons (λ (event : QueuedEvent). event.tier < 7) (out_of side order m) [] (found-All (IsProper side m.listing.sizes) order.id order (orders side m) rests (form.proper side)).tier (All-nil _));
      sequence = form.sequence;
      counted = mod_below (m.events_appended + 1) (2 ^ 64) (omega arith);
      distinct = form.distinct;
      slots = form.slots;
    }

-- the out ends where the order rested
out-ends : (side : Side) (order : Order) (m : Market) (owner : Address) (slot : ℕ) → ends_here owner slot (out_of side order m) ≡ weighed_where (is_order_at owner slot) (λ o. 1) order
out-ends side order m owner slot = ap (λ final. cond (final && is_order_at owner slot order) 1 0) (out-final side m.listing.sizes order)

cancel-counts : (side : Side) (order : Order) (m : Market) → Rests (resting_on side order) m → PlacesAgree m → (owner : Address) (slot : ℕ)
    → rests_at owner slot (cancel_one (resting_on side order) m).bids + rests_at owner slot (cancel_one (resting_on side order) m).asks
    + ends_at owner slot (m.events ++ (out_of side order m ∷ [])) ≡ is_taken (held_at owner slot m.traders)
cancel-counts side order m rests agree owner slot =
    omega (
      arith,
      agree.counts owner slot,
      sides-sum (rests_at owner slot) side m,
      put-sides-sum (rests_at owner slot) side (left_on side order m) (orders (opposite side) m) m,
      total-without (weighed_where (is_order_at owner slot) (λ o. 1)) order.id order (orders side m) rests,
      total-append (ends_here owner slot) m.events (out_of side order m ∷ []),
      out-ends side order m owner slot,
    )

cancel-places : (side : Side) (order : Order) (m : Market) → Rests (resting_on side order) m → PlacesAgree m → PlacesAgree (cancel_one (resting_on side order) m)
cancel-places side order m rests agree =
    let own : List Order = left_on side order m in
    let opposing : List Order = orders (opposite side) m in
    let out : QueuedEvent = out_of side order m in
    let IsResting : Side → Order → Type 0 = λ s o. held_at o.owner o.slot m.traders ≡ Some (order_holding s o) in
    let IsPending : QueuedEvent → Type 0 = λ e. held_at e.owner e.slot m.traders ≡ Some (event_holding e) in
    let unended : ends_at order.owner order.slot m.events ≡ 0 =
    found-All (λ (o : Order). ends_at o.owner o.slot m.events ≡ 0) order.id order (orders side m) rests (resting-unended m agree side) in
    record {
      resting = sides-hold (λ s os. All (IsResting s) os) side own opposing m (All-without (IsResting side) order.id (orders side m) (agree.resting side)) (agree.resting (opposite side));
      pending = All-append IsPending m.events (out ∷ []) agree.pending
          (All-cons IsPending out [] (found-All (IsResting side) order.id order (orders side m) rests (agree.resting side)) (All-nil IsPending));
      counts = cancel-counts side order m rests agree;
      last = EndLast-append m.events (out ∷ []) agree.last (λ final. tt, tt)
          (All-weaker (λ (event : QueuedEvent). (is_final event && is_event_at order.owner order.slot event) ≡ false)
          (λ (event : QueuedEvent). is_final event ≡ true → AreElsewhere event.owner event.slot (out ∷ []))
          (λ event away final. (elsewhere-turned order.owner event.owner order.slot event.slot (is_final event) away final, tt))
          m.events (unended-each order.owner order.slot m.events unended));
      given = agree.given;
      once = agree.once;
    }

-- what the order locked its out owes, and keeps in the owner's total
cancel-locked : (side : Side) (order : Order) (m : Market) → Rests (resting_on side order) m → (token : Token)
    → all_locked token (cancel_one (resting_on side order) m) + owed token (out_of side order m) ≡ all_locked token m
cancel-locked Bid order m rests Coin = omega arith
cancel-locked Bid order m rests Pc = total-without (order_lock Bid m.listing.sizes) order.id order m.bids rests
cancel-locked Ask order m rests Coin = total-without (order_lock Ask m.listing.sizes) order.id order m.asks rests
cancel-locked Ask order m rests Pc = omega arith

nothing-where : (test : Bool) → ◌≡◌ {A = ℕ} (cond test 0 0) 0
nothing-where true = refl
nothing-where false = refl

cancel-own_locked : (side : Side) (order : Order) (m : Market) → Rests (resting_on side order) m → (token : Token) (owner : Address)
    → own_locked token owner (cancel_one (resting_on side order) m) + weighed_where (is_event_of owner) (kept token) (out_of side order m) ≡ own_locked token owner m
cancel-own_locked Bid order m rests Coin owner = omega (arith, nothing-where (is_same owner order.owner))
cancel-own_locked Bid order m rests Pc owner = total-without (weighed_where (is_order_of owner) (order_lock Bid m.listing.sizes)) order.id order m.bids rests
cancel-own_locked Ask order m rests Coin owner = total-without (weighed_where (is_order_of owner) (order_lock Ask m.listing.sizes)) order.id order m.asks rests
cancel-own_locked Ask order m rests Pc owner = omega (arith, nothing-where (is_same owner order.owner))

out-leaves : (side : Side) (order : Order) (m : Market) (token : Token) → leaving token (out_of side order m) ≡ 0
out-leaves Bid order m Coin = refl
out-leaves Bid order m Pc = refl
out-leaves Ask order m Coin = refl
out-leaves Ask order m Pc = refl

cancel-funds : (side : Side) (order : Order) (m : Market) → Rests (resting_on side order) m → FundsAgree m → FundsAgree (cancel_one (resting_on side order) m)
cancel-funds side order m rests funds =
    let out : QueuedEvent = out_of side order m in record {
      solvent = record {
        vaults = λ token. omega (arith, funds.solvent.vaults token, cancel-locked side order m rests token, total-append (owed token) m.events (out ∷ []));
        referrers = omega (arith, funds.solvent.referrers, total-append referred m.events (out ∷ []));
      };
      adds_up = λ owner account found token.
          omega (
            arith,
            funds.adds_up owner account found token,
            cancel-own_locked side order m rests token owner,
            total-append (weighed_where (is_event_of owner) (kept token)) m.events (out ∷ []),
          );
      bounded = λ token. omega (arith, funds.bounded token, total-append (leaving token) m.events (out ∷ []), out-leaves side order m token);
    }

-- so one cancel keeps the market sound, where the event queue has room for its out
pub cancel_one-sound : (gone : RestingOrder) (m : Market) → Rests gone m → length m.events < m.listing.event_capacity → IsSoundByPlace m → IsSoundByPlace (cancel_one gone m)
cancel_one-sound gone m rests room sound = record {
  form = cancel-form gone.side gone.order m rests room sound.form;
  places = cancel-places gone.side gone.order m rests sound.places;
  funds = cancel-funds gone.side gone.order m rests sound.funds;
}

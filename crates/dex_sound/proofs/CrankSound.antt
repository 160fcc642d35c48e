-- consuming events keeps a market sound
use Rattle.std.proofs.Common.{ℕ, zero, suc, ◌+◌, ◌<◌, ◌≡◌, Bool, true, false, ◌&&◌, cond, eqb, List, [], ◌∷◌, Option, Some, None, length, set, get_or, take, drop, refl, sym, ap, ◌∙◌, subst, arith, ⊎_elim, length-set}
use Rattle.std.specs.List.{All}
use Rattle.std.proofs.lemmas.Bool.{cases_Bool, cond_both, cond-true, cond-false}
use Rattle.std.proofs.lemmas.List.Elements.{All-nil, All-cons, All-head, All-tail}
use Rattle.dex_types.specs.declared.addresses.Address.{Address}
use Rattle.dex_types.specs.declared.orders.Order.{Order}
use Rattle.dex_types.specs.declared.terms.Side.{Side}
use Rattle.dex_types.specs.declared.terms.Side.TheVariants.{Bid, Ask}
use Rattle.dex_types.specs.Addresses.{is_same}
use Rattle.dex_types.specs.Market.{Market, orders}
use Rattle.dex_types.specs.Owed.{owed_as, kept, kept_as, referred_as, is_event_of}
use Rattle.dex_types.specs.Payment.{freed, unlocked_funds, paid_as, pay_owner, put_paid, pay_all, after_crank}
use Rattle.dex_types.specs.QueuedEvent.{EventKind, MakerFill, TakerFill, PlainOut, ReleasingOut, QueuedEvent}
use Rattle.dex_types.specs.Side.{Token, Coin, Pc, locked_token}
use Rattle.dex_types.specs.Solvency.{own_locked, own_kept}
use Rattle.dex_types.specs.Soundness.{IsWellFormed, FundsAgree, held_at, held_by, order_holding, event_holding, is_final, is_out_kind}
use Rattle.dex_types.specs.Totals.{weighed_where}
use Rattle.dex_types.specs.Trader.{Account, Balance, Holding, Trader, Open, Closed, Blank, Traders, balance, with_balance, trader_at, put_trader}
use Rattle.dex_laws.specs.Places.{is_event_at}
use Rattle.dex_laws.proofs.TraderLaws.{is_same-refl}
use Rattle.dex_sound.specs.Places.{rests_at, ends_at, is_taken, AreElsewhere, PlacesAgree, IsSoundByPlace}
use Rattle.dex_sound.proofs.PlaceLaws.{is_place}
use Rattle.dex_sound.proofs.PlaceParts.{resting-unended, is_place-sym}
use Rattle.dex_sound.proofs.TraderSums.{all_free-put, all_referrers-put, AreDistinct-put, HasSlots-put, held_at-put_kept, held_at-put_slot, AddsUp-put}

-- the market with these pending events and traders
abbrev pub with_queue : List QueuedEvent → Traders → Market → Market
with_queue events traders m = record m { events = events; traders = traders }

-- an account whose slot is freed keeps its funds
freed-balance : (token : Token) (event : QueuedEvent) (account : Account) → balance token (freed event account) ≡ balance token account
freed-balance Coin event account =
    cond_both (eqb event.paid 0) (record account { slots = set account.slots event.slot None }) account (λ (after : Account). after.coin ≡ account.coin) (λ whole. refl) (λ part. refl)
freed-balance Pc event account =
    cond_both (eqb event.paid 0) (record account { slots = set account.slots event.slot None }) account (λ (after : Account). after.pc ≡ account.pc) (λ whole. refl) (λ part. refl)

freed-referrer : (event : QueuedEvent) (account : Account) → (freed event account).referrer ≡ account.referrer
freed-referrer event account =
    cond_both (eqb event.paid 0) (record account { slots = set account.slots event.slot None }) account (λ (after : Account). after.referrer ≡ account.referrer) (λ whole. refl) (λ part. refl)

freed-slots : (event : QueuedEvent) (account : Account) → (freed event account).slots ≡ cond (eqb event.paid 0) (set account.slots event.slot None) account.slots
freed-slots event account =
    cond_both (eqb event.paid 0) (record account { slots = set account.slots event.slot None }) account
    (λ (after : Account). after.slots ≡ cond (eqb event.paid 0) (set account.slots event.slot None) account.slots)
    (λ whole. sym (cond-true (eqb event.paid 0) _ _ whole)) (λ part. sym (cond-false (eqb event.paid 0) _ _ part))

freed-free : (token : Token) (event : QueuedEvent) (account : Account) → (balance token (freed event account)).free ≡ (balance token account).free
freed-free token event account = ap (λ (b : Balance). b.free) (freed-balance token event account)

freed-total : (token : Token) (event : QueuedEvent) (account : Account) → (balance token (freed event account)).total ≡ (balance token account).total
freed-total token event account = ap (λ (b : Balance). b.total) (freed-balance token event account)

-- the account whose funds an out of the side has unlocked
abbrev unlocked : Side → QueuedEvent → Account → Account
unlocked side event account = with_balance (locked_token side) (unlocked_funds event (balance (locked_token side) account)) account

-- what an account has free after an event, and its referrer part
paid-free : (token : Token) (kind : EventKind) (event : QueuedEvent) (account : Account)
    → (balance token (paid_as kind event account)).free ≡ (balance token account).free + owed_as token kind event
paid-free Coin (MakerFill Bid) event account = refl
paid-free Coin (MakerFill Ask) event account = omega arith
paid-free Coin (TakerFill side) event account = omega arith
paid-free Coin (PlainOut side) event account = omega (arith, freed-free Coin event account)
paid-free Coin (ReleasingOut Bid) event account = omega (arith, freed-free Coin event (unlocked Bid event account))
paid-free Coin (ReleasingOut Ask) event account = freed-free Coin event (unlocked Ask event account)
paid-free Pc (MakerFill Bid) event account = refl
paid-free Pc (MakerFill Ask) event account = refl
paid-free Pc (TakerFill side) event account = omega arith
paid-free Pc (PlainOut side) event account = omega (arith, freed-free Pc event account)
paid-free Pc (ReleasingOut Bid) event account = freed-free Pc event (unlocked Bid event account)
paid-free Pc (ReleasingOut Ask) event account = omega (arith, freed-free Pc event (unlocked Ask event account))

paid-referrer : (kind : EventKind) (event : QueuedEvent) (account : Account) → (paid_as kind event account).referrer ≡ account.referrer + referred_as kind event
paid-referrer (MakerFill side) event account = omega arith
paid-referrer (TakerFill side) event account = refl
paid-referrer (PlainOut side) event account = omega (arith, freed-referrer event account)
paid-referrer (ReleasingOut side) event account = omega (arith, freed-referrer event (unlocked side event account))

-- an account that adds up with the event adds up without it once it was consumed
paid-adds : (token : Token) (kind : EventKind) (event : QueuedEvent) (account : Account) (locked rest : ℕ)
    → (balance token account).total ≡ (balance token account).free + locked + (kept_as token kind event + rest)
    → (balance token (paid_as kind event account)).total ≡ (balance token (paid_as kind event account)).free + locked + rest
paid-adds Coin (MakerFill Bid) event account locked rest adds = omega (arith, adds)
paid-adds Coin (MakerFill Ask) event account locked rest adds = omega (arith, adds)
paid-adds Coin (TakerFill side) event account locked rest adds = omega (arith, adds)
paid-adds Coin (PlainOut side) event account locked rest adds = omega (arith, adds, freed-free Coin event account, freed-total Coin event account)
paid-adds Coin (ReleasingOut Bid) event account locked rest adds =
    omega (arith, adds, freed-free Coin event (unlocked Bid event account), freed-total Coin event (unlocked Bid event account))
paid-adds Coin (ReleasingOut Ask) event account locked rest adds =
    omega (arith, adds, freed-free Coin event (unlocked Ask event account), freed-total Coin event (unlocked Ask event account))
paid-adds Pc (MakerFill Bid) event account locked rest adds = omega (arith, adds)
paid-adds Pc (MakerFill Ask) event account locked rest adds = omega (arith, adds)
paid-adds Pc (TakerFill side) event account locked rest adds = omega (arith, adds)
paid-adds Pc (PlainOut side) event account locked rest adds = omega (arith, adds, freed-free Pc event account, freed-total Pc event account)
paid-adds Pc (ReleasingOut Bid) event account locked rest adds =
    omega (arith, adds, freed-free Pc event (unlocked Bid event account), freed-total Pc event (unlocked Bid event account))
paid-adds Pc (ReleasingOut Ask) event account locked rest adds =
    omega (arith, adds, freed-free Pc event (unlocked Ask event account), freed-total Pc event (unlocked Ask event account))

-- the slots of an account after an event: without its order where the event is the last of it
paid-slots : (kind : EventKind) (event : QueuedEvent) (account : Account)
    → (paid_as kind event account).slots ≡ cond (is_out_kind kind && eqb event.paid 0) (set account.slots event.slot None) account.slots
paid-slots (MakerFill Bid) event account = refl
paid-slots (MakerFill Ask) event account = refl
paid-slots (TakerFill side) event account = refl
paid-slots (PlainOut side) event account = freed-slots event account
paid-slots (ReleasingOut side) event account = freed-slots event (unlocked side event account)

-- as many as before
paid-length : (event : QueuedEvent) (account : Account) → length (paid_as event.kind event account).slots ≡ length account.slots
paid-length event account =
    ap length (paid-slots event.kind event account)
    ∙ cond_both (is_final event) (set account.slots event.slot None) account.slots (λ slots. length slots ≡ length account.slots)
    (λ final. length-set account.slots event.slot None) (λ more. refl)

-- a slot that holds something is one of the slots
holds-within : (slots : List (Option Holding)) (slot : ℕ) (held : Holding) → get_or slots slot None ≡ Some held → slot < length slots
holds-within [] slot held is = absurd (cc)
holds-within (first ∷ others) zero held is = omega arith
holds-within (first ∷ others) (suc slot) held is = omega (arith, holds-within others slot held is)

-- the open account of an address that holds something
pub record Holder (owner : Address) (slot : ℕ) (traders : Traders) : Type 0 where
  pub account : Account
  pub found : trader_at owner traders ≡ Some (Open account)
  pub within : slot < length account.slots

held-by-open : (owner : Address) (slot : ℕ) (traders : Traders) (held : Holding) (trader : Option Trader) → trader_at owner traders ≡ trader → held_by trader slot ≡ Some held → Holder owner slot traders
held-by-open owner slot traders held None found is = absurd (cc)
held-by-open owner slot traders held (Some Blank) found is = absurd (cc)
held-by-open owner slot traders held (Some Closed) found is = absurd (cc)
held-by-open owner slot traders held (Some (Open account)) found is = record { account = account; found = found; within = holds-within account.slots slot held is }

pub holder-of : (owner : Address) (slot : ℕ) (traders : Traders) (held : Holding) → held_at owner slot traders ≡ Some held → Holder owner slot traders
holder-of owner slot traders held is = held-by-open owner slot traders held (trader_at owner traders) refl is

-- what each place holds after an event was consumed: what it held, but nothing where the event was the last of its
-- order
paid-held : (event : QueuedEvent) (traders : Traders) (account : Account) → trader_at event.owner traders ≡ Some (Open account) → event.slot < length account.slots
    → (owner : Address) (at : ℕ) → held_at owner at (put_trader event.owner (Open (paid_as event.kind event account)) traders)
    ≡ cond (is_final event && is_event_at owner at event) None (held_at owner at traders)
paid-held event traders account found within owner at =
    let after : Account = paid_as event.kind event account in
    let slots : after.slots ≡ cond (is_final event) (set account.slots event.slot None) account.slots = paid-slots event.kind event account in
    ⊎_elim
    (λ (final : is_final event ≡ true).
    rw final (held_at-put_slot event.owner event.slot None account after traders found within (slots ∙ cond-true (is_final event) _ _ final) owner at))
    (λ (more : is_final event ≡ false).
    rw more (held_at-put_kept event.owner (Open account) (Open after) traders found
    (λ slot. ap (λ (s : List (Option Holding)). get_or s slot None) (slots ∙ cond-false (is_final event) _ _ more)) owner at))
    (cases_Bool (is_final event))

-- the market with the event consumed
abbrev consumed_one : QueuedEvent → List QueuedEvent → Account → Traders → Market → Market
consumed_one event events account traders m = with_queue events (put_trader event.owner (Open (paid_as event.kind event account)) traders) m

-- the test that the event ends the order of a place
abbrev ends : QueuedEvent → Address → ℕ → Bool
ends event owner at = is_final event && is_event_at owner at event

-- a place that holds an order after the event holds it before
held-before : (test : Bool) (before : Option Holding) (held : Holding) → cond test None before ≡ Some held → before ≡ Some held
held-before true before held is = absurd (cc)
held-before false before held is = is

-- what it holds where the event does not end its order
held-after : (test : Bool) (before : Option Holding) (held : Holding) → test ≡ false → before ≡ Some held → cond test None before ≡ Some held
held-after test before held away is = cond-false test None before away ∙ is

count-after : (test : Bool) (before : Option Holding) (rest : ℕ) → rest + cond test 1 0 ≡ is_taken before → rest ≡ is_taken (cond test None before)
count-after true None rest counts = absurd (omega (arith, counts))
count-after true (Some held) rest counts = omega (arith, counts)
count-after false before rest counts = omega (arith, counts)

ends-not : (final here : Bool) → (final ≡ true → here ≡ false) → (final && here) ≡ false
ends-not true here away = away refl
ends-not false here away = refl

unended-first : (test : Bool) (rest : ℕ) → cond test 1 0 + rest ≡ 0 → test ≡ false
unended-first true rest none = absurd (omega (arith, none))
unended-first false rest none = refl

consumed-places : (event : QueuedEvent) (events : List QueuedEvent) (account : Account) (traders : Traders) (m : Market)
    → trader_at event.owner traders ≡ Some (Open account) → event.slot < length account.slots
    → PlacesAgree (with_queue (event ∷ events) traders m) → PlacesAgree (consumed_one event events account traders m)
consumed-places event events account traders m found within agree =
    let before : Market = with_queue (event ∷ events) traders m in
    let after : Traders = put_trader event.owner (Open (paid_as event.kind event account)) traders in
    let holds : (owner : Address) (at : ℕ) → held_at owner at after ≡ cond (ends event owner at) None (held_at owner at traders) = paid-held event traders account found within in
    let was : (owner : Address) (slot : ℕ) (held : Holding) → held_at owner slot after ≡ Some held → held_at owner slot traders ≡ Some held =
    λ owner slot held is. held-before (ends event owner slot) (held_at owner slot traders) held (sym (holds owner slot) ∙ is) in
    let stays : (owner : Address) (slot : ℕ) (held : Holding) → ends event owner slot ≡ false → held_at owner slot traders ≡ Some held → held_at owner slot after ≡ Some held =
    λ owner slot held away is. holds owner slot ∙ held-after (ends event owner slot) (held_at owner slot traders) held away is in
    record {
      resting = λ side k default inside.
          let order : Order = get_or (orders side m) k default in
          stays order.owner order.slot (order_holding side order)
          (unended-first (ends event order.owner order.slot) (ends_at order.owner order.slot events) (resting-unended before agree side k default inside))
          (agree.resting side k default inside);
      pending = pending-after event events traders after stays agree.last.0
          (All-tail (λ (e : QueuedEvent). held_at e.owner e.slot traders ≡ Some (event_holding e)) event events agree.pending);
      counts = λ owner slot.
          count-after (ends event owner slot) (held_at owner slot traders) (rests_at owner slot m.bids + rests_at owner slot m.asks + ends_at owner slot events)
          (omega (arith, agree.counts owner slot))
          ∙ ap is_taken (sym (holds owner slot));
      last = agree.last.1;
      given = λ owner slot held is. agree.given owner slot held (was owner slot held is);
      once = λ owner other slot at held same is there. agree.once owner other slot at held same (was owner slot held is) (was other at same there);
    }
  where
    pending-after : (event : QueuedEvent) (events : List QueuedEvent) (traders after : Traders)
        → ((owner : Address) (slot : ℕ) (held : Holding) → ends event owner slot ≡ false → held_at owner slot traders ≡ Some held → held_at owner slot after ≡ Some held)
        → (is_final event ≡ true → AreElsewhere event.owner event.slot events)
        → All (λ (e : QueuedEvent). held_at e.owner e.slot traders ≡ Some (event_holding e)) events
        → All (λ (e : QueuedEvent). held_at e.owner e.slot after ≡ Some (event_holding e)) events
    pending-after event [] traders after stays away are = All-nil _
    pending-after event (first ∷ others) traders after stays away are =
        let IsBefore : QueuedEvent → Type 0 = λ e. held_at e.owner e.slot traders ≡ Some (event_holding e) in
        let IsAfter : QueuedEvent → Type 0 = λ e. held_at e.owner e.slot after ≡ Some (event_holding e) in
        All-cons IsAfter first others
        (stays first.owner first.slot (event_holding first)
        (ends-not (is_final event) (is_place first.owner first.slot event.owner event.slot)
        (λ final. is_place-sym first.owner event.owner first.slot event.slot ∙ (away final).0))
        (All-head IsBefore first others are))
        (pending-after event others traders after stays (λ final. (away final).1) (All-tail IsBefore first others are))

consumed-form : (event : QueuedEvent) (events : List QueuedEvent) (account : Account) (traders : Traders) (m : Market) → trader_at event.owner traders ≡ Some (Open account)
    → IsWellFormed (with_queue (event ∷ events) traders m) → IsWellFormed (consumed_one event events account traders m)
consumed-form event events account traders m found form =
    let after : Account = paid_as event.kind event account in
    record {
      mints = form.mints;
      coin_lot = form.coin_lot;
      pc_lot = form.pc_lot;
      room = form.room;
      in_order = form.in_order;
      proper = form.proper;
      within = form.within;
      events_within = omega (arith, form.events_within);
      tiers = All-tail (λ (e : QueuedEvent). e.tier < 7) event events form.tiers;
      sequence = form.sequence;
      counted = form.counted;
      distinct = AreDistinct-put event.owner (Open after) traders form.distinct;
      slots = HasSlots-put event.owner (Open account) (Open after) traders found
          (λ other is. let same : after ≡ other = cc in ap (λ (a : Account). length a.slots) (sym same) ∙ paid-length event account ∙ form.slots event.owner account found) form.slots;
    }

consumed-funds : (event : QueuedEvent) (events : List QueuedEvent) (account : Account) (traders : Traders) (m : Market) → trader_at event.owner traders ≡ Some (Open account)
    → FundsAgree (with_queue (event ∷ events) traders m) → FundsAgree (consumed_one event events account traders m)
consumed-funds event events account traders m found funds =
    let after : Account = paid_as event.kind event account in
    let before : Market = with_queue (event ∷ events) traders m in
    record {
      solvent = record {
        vaults = λ token. omega (arith, funds.solvent.vaults token, paid-free token event.kind event account, all_free-put token event.owner (Open account) (Open after) traders found);
        referrers = omega (arith, funds.solvent.referrers, paid-referrer event.kind event account, all_referrers-put event.owner (Open account) (Open after) traders found);
      };
      adds_up = AddsUp-put before (consumed_one event events account traders m) event.owner (Open account) (Open after) found refl
          (λ other apart token. others-kept token other event events m apart)
          (λ other is token.
          let same : after ≡ other = cc in
          subst (λ (a : Account). (balance token a).total ≡ (balance token a).free + own_locked token event.owner m + own_kept token event.owner events) same
          (paid-adds token event.kind event account (own_locked token event.owner m) (own_kept token event.owner events)
          (funds.adds_up event.owner account found token ∙ own-kept token event events ((balance token account).free + own_locked token event.owner m))))
          funds.adds_up;
      bounded = λ token. omega (arith, funds.bounded token);
    }
  where
    others-kept : (token : Token) (owner : Address) (event : QueuedEvent) (events : List QueuedEvent) (m : Market) → is_same owner event.owner ≡ false
        → own_locked token owner m + own_kept token owner events ≡ own_locked token owner m + own_kept token owner (event ∷ events)
    others-kept token owner event events m apart =
        let none : weighed_where (is_event_of owner) (kept token) event ≡ 0 = cond-false (is_same owner event.owner) (kept token event) 0 apart in omega (arith, none)

    own-kept : (token : Token) (event : QueuedEvent) (events : List QueuedEvent) (rest : ℕ)
        → rest + own_kept token event.owner (event ∷ events) ≡ rest + (kept token event + own_kept token event.owner events)
    own-kept token event events rest =
        let own : weighed_where (is_event_of event.owner) (kept token) event ≡ kept token event = cond-true (is_same event.owner event.owner) (kept token event) 0 (is_same-refl event.owner) in omega (arith, own)

-- one event consumed keeps the market sound
consume_one-sound : (event : QueuedEvent) (events : List QueuedEvent) (traders : Traders) (m : Market)
    → IsSoundByPlace (with_queue (event ∷ events) traders m) → IsSoundByPlace (with_queue events (pay_owner event traders) m)
consume_one-sound event events traders m sound =
    let holder : Holder event.owner event.slot traders =
    holder-of event.owner event.slot traders (event_holding event)
    (All-head (λ (e : QueuedEvent). held_at e.owner e.slot traders ≡ Some (event_holding e)) event events sound.places.pending) in
    let paid : pay_owner event traders ≡ put_trader event.owner (Open (paid_as event.kind event holder.account)) traders =
    ap (λ found. put_paid event.owner event found traders) holder.found in
    subst (λ (t : Traders). IsSoundByPlace (with_queue events t m)) (sym paid) (record {
      form = consumed-form event events holder.account traders m holder.found sound.form;
      places = consumed-places event events holder.account traders m holder.found holder.within sound.places;
      funds = consumed-funds event events holder.account traders m holder.found sound.funds;
    })

-- and so do several, one after the other
consume-sound : (count : ℕ) (events : List QueuedEvent) (traders : Traders) (m : Market)
    → IsSoundByPlace (with_queue events traders m) → IsSoundByPlace (with_queue (drop count events) (pay_all (take count events) traders) m)
consume-sound zero events traders m sound = sound
consume-sound (suc count) [] traders m sound = sound
consume-sound (suc count) (event ∷ events) traders m sound =
    consume-sound count events (pay_owner event traders) m (consume_one-sound event events traders m sound)

pub crank-sound : (count : ℕ) (m : Market) → IsSoundByPlace m → IsSoundByPlace (after_crank count m)
crank-sound count m sound = consume-sound count m.events m.traders m sound

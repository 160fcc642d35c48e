-- in a sound market amounts fit their fields, events can be paid, and payouts are there
use Rattle.std.proofs.Common.{ℕ, ◌+◌, ◌≤◌, ◌<◌, ◌≡◌, ◌^◌, Bool, true, List, [], ◌∷◌, Some, slice_index_or, arith}
use Rattle.std.specs.List.{All}
use Rattle.std.proofs.lemmas.Bool.{cond_both}
use Rattle.std.proofs.lemmas.List.Elements.{All-nil, All-cons, All-weaker}
use Rattle.dex_types.specs.declared.addresses.Address.{Address}
use Rattle.dex_types.specs.declared.terms.Side.TheVariants.{Bid, Ask}
use Rattle.dex_types.specs.Addresses.{is_same}
use Rattle.dex_types.specs.Market.{Market, orders}
use Rattle.dex_types.specs.Owed.{order_lock, owed, owed_as, kept, kept_as, leaving_as, referred, is_order_of, is_event_of}
use Rattle.dex_types.specs.QueuedEvent.{EventKind, MakerFill, TakerFill, PlainOut, ReleasingOut, QueuedEvent}
use Rattle.dex_types.specs.Side.{Token, Coin, Pc}
use Rattle.dex_types.specs.Solvency.{IsSolvent, all_free, all_referrers, all_owed, all_leaving, own_kept}
use Rattle.dex_types.specs.Soundness.{IsSound, FundsAgree, held_at, event_holding}
use Rattle.dex_types.specs.Tokens.{locking_side}
use Rattle.dex_types.specs.Totals.{total, weighed_where}
use Rattle.dex_types.specs.Trader.{Account, Open, Closed, Traders, balance, trader_at}
use Rattle.dex_laws.proofs.TotalLaws.{total-each}
use Rattle.dex_laws.proofs.TraderLaws.{is_same-refl}
use Rattle.dex_sound.specs.Exchange.{gained, gained_as}
use Rattle.dex_sound.specs.Fields.{AccountFits, FieldsFit, CanBePaid, CanPayOut}
use Rattle.dex_sound.specs.Places.{IsSoundByPlace}
use Rattle.dex_sound.proofs.CrankSound.{Holder, holder-of}
use Rattle.dex_sound.proofs.PlaceParts.{to-place}
use Rattle.dex_sound.proofs.TraderSums.{all_free-put, all_referrers-put}

-- what one trader has free is part of what all have, and so its referrer part
free-le : (token : Token) (owner : Address) (account : Account) (traders : Traders) → trader_at owner traders ≡ Some (Open account) → (balance token account).free ≤ all_free token traders
free-le token owner account traders found = omega (arith, all_free-put token owner (Open account) Closed traders found)

referrer-le : (owner : Address) (account : Account) (traders : Traders) → trader_at owner traders ≡ Some (Open account) → account.referrer ≤ all_referrers traders
referrer-le owner account traders found = omega (arith, all_referrers-put owner (Open account) Closed traders found)

-- a part of a weight has at most its total
part-le : {X : Type 0} (weight : X → ℕ) (test : X → Bool) (xs : List X) → total (weighed_where test weight) xs ≤ total weight xs
part-le weight test [] = omega arith
part-le weight test (x ∷ xs) =
    let first : weighed_where test weight x ≤ weight x = cond_both (test x) (weight x) 0 (λ part. part ≤ weight x) (λ is. omega arith) (λ is. omega arith) in
    omega (arith, first, part-le weight test xs)

-- what an event keeps in a total it owes, or takes off the total
kept-le : (token : Token) (kind : EventKind) (event : QueuedEvent) → kept_as token kind event ≤ owed_as token kind event + leaving_as token kind event
kept-le Coin (MakerFill Bid) event = omega arith
kept-le Coin (MakerFill Ask) event = omega arith
kept-le Coin (TakerFill side) event = omega arith
kept-le Coin (PlainOut side) event = omega arith
kept-le Coin (ReleasingOut Bid) event = omega arith
kept-le Coin (ReleasingOut Ask) event = omega arith
kept-le Pc (MakerFill Bid) event = omega arith
kept-le Pc (MakerFill Ask) event = omega arith
kept-le Pc (TakerFill side) event = omega arith
kept-le Pc (PlainOut side) event = omega arith
kept-le Pc (ReleasingOut Bid) event = omega arith
kept-le Pc (ReleasingOut Ask) event = omega arith

all_kept-le : (token : Token) (events : List QueuedEvent) → total (kept token) events ≤ all_owed token events + all_leaving token events
all_kept-le token [] = omega arith
all_kept-le token (event ∷ events) = omega (arith, kept-le token event.kind event, all_kept-le token events)

-- and so it does with what it brings its owner
gained-le : (token : Token) (kind : EventKind) (event : QueuedEvent) → kept_as token kind event + gained_as token kind event ≤ owed_as token kind event + leaving_as token kind event
gained-le Coin (MakerFill Bid) event = omega arith
gained-le Coin (MakerFill Ask) event = omega arith
gained-le Coin (TakerFill side) event = omega arith
gained-le Coin (PlainOut side) event = omega arith
gained-le Coin (ReleasingOut Bid) event = omega arith
gained-le Coin (ReleasingOut Ask) event = omega arith
gained-le Pc (MakerFill Bid) event = omega arith
gained-le Pc (MakerFill Ask) event = omega arith
gained-le Pc (TakerFill side) event = omega arith
gained-le Pc (PlainOut side) event = omega arith
gained-le Pc (ReleasingOut Bid) event = omega arith
gained-le Pc (ReleasingOut Ask) event = omega arith

-- what leaves an owner's total is kept in it
leaving-le : (token : Token) (kind : EventKind) (event : QueuedEvent) → leaving_as token kind event ≤ kept_as token kind event
leaving-le Coin (MakerFill Bid) event = omega arith
leaving-le Coin (MakerFill Ask) event = omega arith
leaving-le Coin (TakerFill side) event = omega arith
leaving-le Coin (PlainOut side) event = omega arith
leaving-le Coin (ReleasingOut Bid) event = omega arith
leaving-le Coin (ReleasingOut Ask) event = omega arith
leaving-le Pc (MakerFill Bid) event = omega arith
leaving-le Pc (MakerFill Ask) event = omega arith
leaving-le Pc (TakerFill side) event = omega arith
leaving-le Pc (PlainOut side) event = omega arith
leaving-le Pc (ReleasingOut Bid) event = omega arith
leaving-le Pc (ReleasingOut Ask) event = omega arith

-- so a total is part of the bounded sum
total-fits : (token : Token) (owner : Address) (account : Account) (m : Market) → FundsAgree m → trader_at owner m.traders ≡ Some (Open account)
    → (balance token account).total < 2 ^ 64
total-fits token owner account m funds found =
    omega (
      arith,
      funds.bounded token,
      funds.solvent.vaults token,
      funds.adds_up owner account found token,
      free-le token owner account m.traders found,
      part-le (order_lock (locking_side token) m.listing.sizes) (is_order_of owner) (orders (locking_side token) m),
      part-le (kept token) (is_event_of owner) m.events,
      all_kept-le token m.events,
    )

account-fits : (m : Market) (owner : Address) (account : Account) → FundsAgree m → trader_at owner m.traders ≡ Some (Open account) → AccountFits account
account-fits m owner account funds found = record {
  free = λ token. omega (arith, funds.adds_up owner account found token);
  total = λ token. total-fits token owner account m funds found;
  referrer = omega (arith, referrer-le owner account m.traders found, funds.solvent.referrers, funds.solvent.vaults Pc, funds.bounded Pc);
}

pub fields-fit : (m : Market) → IsSound m → FieldsFit m
fields-fit m sound =
    let funds : FundsAgree m = sound.funds in
    record {
      vaults = λ token. omega (arith, funds.bounded token);
      coin_fees = omega (arith, funds.solvent.vaults Coin, funds.bounded Coin);
      pc_fees = omega (arith, funds.solvent.vaults Pc, funds.bounded Pc);
      rebates = omega (arith, funds.solvent.vaults Pc, funds.bounded Pc);
      accounts = λ owner account found. account-fits m owner account funds found;
    }

-- what events keep for an owner, each of them alone
own-each : (token : Token) (events : List QueuedEvent) → All (λ (event : QueuedEvent). kept token event ≤ own_kept token event.owner events) events
own-each token [] = All-nil _
own-each token (first ∷ others) =
    All-cons (λ (event : QueuedEvent). kept token event ≤ own_kept token event.owner (first ∷ others)) first others
    (let own : is_same first.owner first.owner ≡ true = is_same-refl first.owner in rw own (omega arith))
    (All-weaker (λ (event : QueuedEvent). kept token event ≤ own_kept token event.owner others) (λ (event : QueuedEvent). kept token event ≤ own_kept token event.owner (first ∷ others))
    (λ event rest. omega (arith, rest)) others (own-each token others))

-- and with what one of them brings
own-gained : (token : Token) (events : List QueuedEvent)
    → All (λ (event : QueuedEvent). own_kept token event.owner events + gained token event ≤ all_owed token events + all_leaving token events) events
own-gained token [] = All-nil _
own-gained token (first ∷ others) =
    All-cons (λ (event : QueuedEvent). own_kept token event.owner (first ∷ others) + gained token event ≤ all_owed token (first ∷ others) + all_leaving token (first ∷ others)) first others
    (let own : is_same first.owner first.owner ≡ true = is_same-refl first.owner in
    rw own (omega (arith, gained-le token first.kind first, part-le (kept token) (is_event_of first.owner) others, all_kept-le token others)))
    (All-weaker (λ (event : QueuedEvent). own_kept token event.owner others + gained token event ≤ all_owed token others + all_leaving token others)
    (λ (event : QueuedEvent). own_kept token event.owner (first ∷ others) + gained token event ≤ all_owed token (first ∷ others) + all_leaving token (first ∷ others))
    (λ event rest.
    let head : weighed_where (is_event_of event.owner) (kept token) first ≤ kept token first =
    cond_both (is_event_of event.owner first) (kept token first) 0 (λ part. part ≤ kept token first) (λ is. omega arith) (λ is. omega arith) in
    omega (arith, rest, head, kept-le token first.kind first)) others (own-gained token others))

-- an event of an open account can be paid
pays : (m : Market) → IsSoundByPlace m → (event : QueuedEvent) → held_at event.owner event.slot m.traders ≡ Some (event_holding event)
    → ((token : Token) → kept token event ≤ own_kept token event.owner m.events) → ((token : Token) → owed token event ≤ all_owed token m.events)
    → ((token : Token) → own_kept token event.owner m.events + gained token event ≤ all_owed token m.events + all_leaving token m.events)
    → referred event ≤ total referred m.events → CanBePaid m event
pays m sound event held own pending gains refers =
    let funds : FundsAgree m = sound.funds in
    let holder : Holder event.owner event.slot m.traders = holder-of event.owner event.slot m.traders (event_holding event) held in
    record {
      account = holder.account;
      found = holder.found;
      held = held;
      leaving = λ token. omega (arith, leaving-le token event.kind event, own token, funds.adds_up event.owner holder.account holder.found token);
      free = λ token. omega (arith, funds.bounded token, funds.solvent.vaults token, pending token, free-le token event.owner holder.account m.traders holder.found);
      total = λ token.
          omega (
            arith,
            gains token,
            funds.bounded token,
            funds.solvent.vaults token,
            funds.adds_up event.owner holder.account holder.found token,
            free-le token event.owner holder.account m.traders holder.found,
            part-le (order_lock (locking_side token) m.listing.sizes) (is_order_of event.owner) (orders (locking_side token) m),
          );
      referrer = omega (arith, funds.bounded Pc, funds.solvent.vaults Pc, funds.solvent.referrers, refers, referrer-le event.owner holder.account m.traders holder.found);
    }

pub events-pay : (m : Market) → IsSound m → All (CanBePaid m) m.events
events-pay m sound k default within =
    let by_place : IsSoundByPlace m = to-place m sound in
    let event : QueuedEvent = slice_index_or m.events k default in
    pays m by_place event (by_place.places.pending k default within) (λ token. own-each token m.events k default within)
    (λ token. total-each (owed token) m.events k default within) (λ token. own-gained token m.events k default within) (total-each referred m.events k default within)

-- payouts
pub pays-out : (m : Market) → IsSound m → CanPayOut m
pays-out m sound =
    let solvent : IsSolvent m = sound.funds.solvent in
    record {
      coin = λ owner account found. omega (arith, solvent.vaults Coin, free-le Coin owner account m.traders found);
      pc = λ owner account found. omega (arith, solvent.vaults Pc, solvent.referrers, free-le Pc owner account m.traders found, referrer-le owner account m.traders found);
      referrer = λ owner account found. omega (arith, solvent.referrers, referrer-le owner account m.traders found);
      fees = omega (arith, solvent.vaults Pc);
    }

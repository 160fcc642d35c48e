-- The first events of a sound market can be paid to the accounts of their owners, and what is left is the queue and the
-- accounts of the market after them.
use Rattle.std.proofs.Common.{◌≡◌, ℕ, zero, suc, ◌+◌, ◌≤◌, ◌<◌, Bool, true, false, cond, eqb, List, ◌∷◌, length, map, take, drop, get_or, Option, Some, None, IsSome, refl, sym, ap, ◌∙◌, subst, arith, rules, inl, inr, length-drop}
use Rattle.std.specs.List.{All}
use Rattle.std.proofs.lemmas.Bool.{eqb-true}
use Rattle.std.proofs.lemmas.List.Elements.{All-head, All-weaker}
use Rattle.dex_fields.specs.declared.open_orders.TheConstants.{ACCOUNT_FLAGS}
use Rattle.dex_fields.specs.declared.event_queue.TheConstants.{COUNT}
use Rattle.dex_fields.specs.Bytes.{number_in}
use Rattle.dex_orders.specs.OrdersAccount.{IsOpen, IsOrders, account_of}
use Rattle.dex_orders.specs.StandsFor.{IsOnMarket, StandForTraders, StandsForTrader, trader_of, traders_of}
use Rattle.dex_orders.proofs.Verdicts.{open_from_flags}
use Rattle.dex_ring.specs.Ring.{IsEventQueue, Ring, event_at, events_of, popped, ring_of}
use Rattle.dex_ring.specs.StandsFor.{ring_of_market}
use Rattle.dex_ring.proofs.PopLaw.{IsEventQueue-popped, events_of-first, ring_of-popped}
use Rattle.dex_ring.proofs.RingLaw.{length-events_of}
use Rattle.dex_sound.specs.Fields.{AccountFits, CanBePaid}
use Rattle.dex_sound.proofs.CrankLaws.{after_crank-add}
use Rattle.dex_sound.proofs.CrankSound.{crank-sound}
use Rattle.dex_sound.proofs.FieldLaws.{events-pay, fields-fit}
use Rattle.dex_sound.proofs.PlaceParts.{from-place, to-place}
use Rattle.dex_laws.proofs.TraderLaws.{trader_at-put_same}
use Rattle.dex_types.specs.declared.addresses.Address.{Address}
use Rattle.dex_types.specs.Accounts.{PlainAccount}
use Rattle.dex_types.specs.Market.{Market}
use Rattle.dex_types.specs.Owed.{leaving}
use Rattle.dex_types.specs.Payment.{after_crank, paid_as, pay_all, put_paid}
use Rattle.dex_types.specs.QueuedEvent.{QueuedEvent, decoded_event}
use Rattle.dex_types.specs.Side.{Coin, Pc}
use Rattle.dex_types.specs.Soundness.{IsSound, event_holding, held_by}
use Rattle.dex_types.specs.Trader.{Account, Trader, Blank, Closed, Open, trader_at, put_trader}
use Rattle.dex_accounts.specs.Owners.{bytes_at, changed_at, named_in}
use Rattle.dex_accounts.specs.Parts.{AreOf, MarketParts}
use Rattle.dex_accounts.proofs.OwnerLaws.{All-bytes_at, All-changed_at, Stands, named_in-changed_at, stands-of, traders_of-changed_at}
use Rattle.dex_accounts.proofs.PartLaws.{AreOf-accounts, AreOf-events, StandForTraders-changed_at, events_in-parts, trader_of-open}
use Rattle.dex_crank.specs.PaidBytes.{CanTake, CrankBytes, HasOwner, paid_bytes, paid_first, paid_in}
use Rattle.dex_crank.specs.Parts.{AreCrankedIn, AreOfSoundMarket, Keeps, crank_given, with_cranked}
use Rattle.dex_crank.proofs.PaymentLaws.{FitsFunds-from, IsPaid, IsPaid-of}

-- ---- an account that stands for an open trader

open-by : (is_open is_closed : Bool) (account known : Account) → cond is_open (Open account) (cond is_closed Closed Blank) ≡ Open known → (is_open ≡ true) × (account ≡ known)
open-by true is_closed account known is = (refl, cc)
open-by false true account known is = absurd (cc)
open-by false false account known is = absurd (cc)

open-of : (bytes : List ℕ) (known : Account) → trader_of bytes ≡ Open known → (number_in bytes ACCOUNT_FLAGS ≡ 5) × (account_of bytes ≡ known)
open-of bytes known is =
    let both : (eqb (number_in bytes ACCOUNT_FLAGS) 5 ≡ true) × (account_of bytes ≡ known) =
    open-by (eqb (number_in bytes ACCOUNT_FLAGS) 5) (eqb (number_in bytes ACCOUNT_FLAGS) 256) (account_of bytes) known is in
    (eqb-true _ _ both.0, both.1)

-- ---- the market after its first events

pub crank-sound_of : (count : ℕ) (m : Market) → IsSound m → IsSound (after_crank count m)
crank-sound_of count m sound = from-place (after_crank count m) (crank-sound count m (to-place m sound))

traders-one : (m : Market) (event : QueuedEvent) (rest : List QueuedEvent) (trader : Trader) → m.events ≡ event ∷ rest → trader_at event.owner m.traders ≡ Some trader
    → (after_crank 1 m).traders ≡ put_paid event.owner event (Some trader) m.traders
traders-one m event rest trader first found =
    ap (λ (l : List QueuedEvent). pay_all (take 1 l) m.traders) first
    ∙ ap (λ (o : Option Trader). put_paid event.owner event o m.traders) found

module _ (bytes : CrankBytes) (m : Market) (parts : AreCrankedIn m bytes) (event : QueuedEvent) (rest : List QueuedEvent) (first : events_of bytes.queue ≡ event ∷ rest) where
  events-m : m.events ≡ event ∷ rest
  events-m = sym parts.events ∙ first

  can : CanBePaid m event
  can = All-head (CanBePaid m) event rest (subst (λ (l : List QueuedEvent). All (CanBePaid m) l) events-m (events-pay m parts.sound))

  stands : Stands event.owner (Open can.account) bytes.accounts
  stands = stands-of event.owner (Open can.account) bytes.accounts (ap (trader_at event.owner) parts.traders ∙ can.found)

  flags : number_in stands.bytes ACCOUNT_FLAGS ≡ 5
  flags = (open-of stands.bytes can.account stands.stands).0

  account : account_of stands.bytes ≡ can.account
  account = (open-of stands.bytes can.account stands.stands).1

  is_open : IsOpen stands.bytes
  is_open = open_from_flags stands.bytes (All-bytes_at IsOrders event.owner bytes.accounts stands.bytes parts.accounts stands.found) flags

  traders-next : (after_crank 1 m).traders ≡ put_trader event.owner (Open (paid_as event.kind event can.account)) m.traders
  traders-next = traders-one m event rest (Open can.account) events-m can.found

  fits : AccountFits (paid_as event.kind event can.account)
  fits =
      (fields-fit (after_crank 1 m) (crank-sound_of 1 m parts.sound)).accounts event.owner (paid_as event.kind event can.account)
      (ap (trader_at event.owner) traders-next ∙ trader_at-put_same event.owner (Open can.account) (Open (paid_as event.kind event can.account)) m.traders can.found)

  held : get_or can.account.slots event.slot None ≡ Some (event_holding event)
  held = ap (λ (o : Option Trader). held_by o event.slot) (sym can.found) ∙ can.held

  can_take : CanTake event stands.bytes
  can_take =
      let a = account_of stands.bytes in
      record {
        accepted = is_open;
        fits =
            FitsFunds-from a.person a.coin.free a.coin.total a.pc.free a.pc.total a.referrer a.slots event event.kind
            (subst (λ (known : Account). AccountFits (paid_as event.kind event known)) (sym account) fits)
            (subst (λ (known : Account). leaving Coin event ≤ known.coin.total) (sym account) (can.leaving Coin))
            (subst (λ (known : Account). leaving Pc event ≤ known.pc.total) (sym account) (can.leaving Pc));
        held =
            let here : get_or (account_of stands.bytes).slots event.slot None ≡ Some (event_holding event) = ap (λ (known : Account). get_or known.slots event.slot None) account ∙ held in
            subst IsSome (sym here) (search rules);
      }

  pub has_owner : HasOwner event bytes.accounts
  has_owner = record { bytes = stands.bytes; found = stands.found; can_take = can_take }

  paid : IsPaid event stands.bytes
  paid = IsPaid-of event stands.bytes can_take

  -- what holds of the owner's bytes, whichever they are found to be
  found-paid : (owned : List ℕ) → bytes_at event.owner bytes.accounts ≡ Some owned → IsPaid event owned
  found-paid owned found =
      let is : Some stands.bytes ≡ Some owned = sym stands.found ∙ found in
      let same : stands.bytes ≡ owned = cc in
      subst (IsPaid event) same paid

  abbrev left : List PlainAccount
  left = changed_at event.owner (paid_in event) bytes.accounts

  pub accounts-left : All (λ (account : PlainAccount). IsOrders account.bytes) left
  accounts-left = All-changed_at IsOrders event.owner (paid_in event) bytes.accounts parts.accounts (λ owned found. inr (inl (found-paid owned found).accepted))

  pub names-left : map named_in left ≡ map named_in bytes.accounts
  names-left = named_in-changed_at event.owner (paid_in event) bytes.accounts (λ owned found. (found-paid owned found).market)

  paid-trader : trader_of (paid_in event stands.bytes) ≡ Open (paid_as event.kind event can.account)
  paid-trader = trader_of-open (paid_in event stands.bytes) paid.accepted ∙ ap Open (paid.words ∙ ap (paid_as event.kind event) account)

  pub traders-left : traders_of left ≡ (after_crank 1 m).traders
  traders-left =
      traders_of-changed_at event.owner (paid_in event) bytes.accounts stands.bytes stands.found
      ∙ ap (λ (t : Trader). put_trader event.owner t (traders_of bytes.accounts)) paid-trader
      ∙ ap (put_trader event.owner (Open (paid_as event.kind event can.account))) parts.traders
      ∙ sym traders-next

  -- the accounts left are on the market on which they were
  pub StandForTraders-left : (market : Address) → StandForTraders bytes.accounts market m.traders → StandForTraders left market (after_crank 1 m).traders
  StandForTraders-left market stand =
      let OnMarket : List ℕ → Type 0 = λ b. StandsForTrader b market (trader_of b) in
      let was : OnMarket stands.bytes = All-bytes_at OnMarket event.owner bytes.accounts stands.bytes stand.each stands.found in
      subst (StandForTraders left market) (sym traders-next)
      (StandForTraders-changed_at event.owner (paid_in event) (Open (paid_as event.kind event can.account)) bytes.accounts market m.traders stands.bytes stand stands.found
      (record { accepted = inr (inl paid.accepted); stands = paid-trader; on_market = λ accepted. paid.market ∙ was.on_market is_open }))

-- ---- the first event of a queue

pub pending-count : (queue : List ℕ) → IsEventQueue queue → 0 < length (events_of queue) → 0 < number_in queue COUNT
pending-count queue is pending = omega (arith, length-events_of queue, pending)

-- the event at the head of the queue
abbrev pub head_of : List ℕ → QueuedEvent
head_of queue = decoded_event (event_at queue 0)

-- what is left where the first event is paid
module _ (bytes : CrankBytes) (m : Market) (parts : AreCrankedIn m bytes) (pending : 0 < length (events_of bytes.queue)) where
  some : 0 < number_in bytes.queue COUNT
  some = pending-count bytes.queue parts.queue pending

  first : events_of bytes.queue ≡ head_of bytes.queue ∷ events_of (popped bytes.queue)
  first = events_of-first bytes.queue parts.queue some

  rest : events_of (popped bytes.queue) ≡ drop 1 m.events
  rest = ap (drop 1) (sym first ∙ parts.events)

  pub AreCrankedIn-first : AreCrankedIn (after_crank 1 m) (paid_first bytes)
  unfolding paid_first
  AreCrankedIn-first = record {
    sound = crank-sound_of 1 m parts.sound;
    queue = IsEventQueue-popped bytes.queue parts.queue some;
    events = rest;
    accounts = accounts-left bytes m parts (head_of bytes.queue) (events_of (popped bytes.queue)) first;
    traders = traders-left bytes m parts (head_of bytes.queue) (events_of (popped bytes.queue)) first;
  }

  pub Keeps-first : Keeps bytes (paid_first bytes)
  unfolding paid_first
  Keeps-first = record {
    capacity = ap (λ (r : Ring). r.capacity) (ring_of-popped bytes.queue parts.queue some);
    appended = ap (λ (r : Ring). r.seq_num) (ring_of-popped bytes.queue parts.queue some);
    names = names-left bytes m parts (head_of bytes.queue) (events_of (popped bytes.queue)) first;
    accepted = accounts-left bytes m parts (head_of bytes.queue) (events_of (popped bytes.queue)) first;
  }

-- the parts of a market are those of it after its first event
AreCrankedIn-parts : (parts : MarketParts) (m : Market) → IsSound m → AreOf parts m → AreCrankedIn m (crank_given parts)
AreCrankedIn-parts parts m sound are = record {
  sound = sound;
  queue = are.events.accepted;
  events = events_in-parts parts m are;
  accounts =
      All-weaker (IsOnMarket m.listing.address) (λ (account : PlainAccount). IsOrders account.bytes) (λ account on. on.accepted) parts.accounts are.traders.each;
  traders = are.traders.stand;
}

AreOf-first : (parts : MarketParts) (m : Market) → IsSound m → AreOf parts m → 0 < length m.events
    → AreOf (with_cranked (paid_first (crank_given parts)) parts) (after_crank 1 m)
unfolding paid_first
AreOf-first parts m sound are pending =
    let given : CrankBytes = crank_given parts in
    let cranked : AreCrankedIn m given = AreCrankedIn-parts parts m sound are in
    let some : 0 < length (events_of parts.events) = subst (λ (l : List QueuedEvent). 0 < length l) (sym cranked.events) pending in
    let count : 0 < number_in parts.events COUNT = pending-count parts.events cranked.queue some in
    let first : events_of parts.events ≡ head_of parts.events ∷ events_of (popped parts.events) = events_of-first parts.events cranked.queue count in
    let taken : MarketParts = record parts { events = popped parts.events } in
    let between : Market = record m { events = drop 1 m.events } in
    let ring : ring_of (popped parts.events) ≡ ring_of_market between =
    ring_of-popped parts.events cranked.queue count ∙ ap (λ (r : Ring). record r { events = drop 1 r.events }) are.events.ring in
    let one : AreOf taken between = AreOf-events parts m are (popped parts.events) (drop 1 m.events) m.events_appended (IsEventQueue-popped parts.events cranked.queue count) ring in
    AreOf-accounts taken between one (changed_at (head_of parts.events).owner (paid_in (head_of parts.events)) parts.accounts) (after_crank 1 m).traders
    (StandForTraders-left given m cranked (head_of parts.events) (events_of (popped parts.events)) first m.listing.address are.traders)

-- ---- the first events

drop-some : (count : ℕ) (l : List QueuedEvent) → suc count ≤ length l → 0 < length (drop count l)
drop-some count l lt = omega (arith, length-drop count l)

next-crank : (count : ℕ) (m : Market) → after_crank 1 (after_crank count m) ≡ after_crank (suc count) m
next-crank count m = let more : count + 1 ≡ suc count = omega arith in after_crank-add count 1 m ∙ ap (λ (n : ℕ). after_crank n m) more

pub AreCrankedIn-bytes : (bytes : CrankBytes) (m : Market) (count : ℕ) → AreCrankedIn m bytes → count ≤ length m.events → AreCrankedIn (after_crank count m) (paid_bytes count bytes)
AreCrankedIn-bytes bytes m zero parts le = record { sound = parts.sound; queue = parts.queue; events = parts.events; accounts = parts.accounts; traders = parts.traders }
AreCrankedIn-bytes bytes m (suc count) parts le =
    let now : AreCrankedIn (after_crank count m) (paid_bytes count bytes) = AreCrankedIn-bytes bytes m count parts (omega arith) in
    let some : 0 < length (events_of (paid_bytes count bytes).queue) = subst (λ (l : List QueuedEvent). 0 < length l) (sym now.events) (drop-some count m.events le) in
    subst (λ (behind : Market). AreCrankedIn behind (paid_bytes (suc count) bytes)) (next-crank count m)
    (AreCrankedIn-first (paid_bytes count bytes) (after_crank count m) now some)

pub Keeps-bytes : (bytes : CrankBytes) (m : Market) (count : ℕ) → AreCrankedIn m bytes → count ≤ length m.events → Keeps bytes (paid_bytes count bytes)
Keeps-bytes bytes m zero parts le = record { capacity = refl; appended = refl; names = refl; accepted = parts.accounts }
Keeps-bytes bytes m (suc count) parts le =
    let now : AreCrankedIn (after_crank count m) (paid_bytes count bytes) = AreCrankedIn-bytes bytes m count parts (omega arith) in
    let some : 0 < length (events_of (paid_bytes count bytes).queue) = subst (λ (l : List QueuedEvent). 0 < length l) (sym now.events) (drop-some count m.events le) in
    let kept : Keeps bytes (paid_bytes count bytes) = Keeps-bytes bytes m count parts (omega arith) in
    let more : Keeps (paid_bytes count bytes) (paid_first (paid_bytes count bytes)) = Keeps-first (paid_bytes count bytes) (after_crank count m) now some in
    record {
      capacity = more.capacity ∙ kept.capacity;
      appended = more.appended ∙ kept.appended;
      names = more.names ∙ kept.names;
      accepted = more.accepted;
    }

pub AreOf-cranked : (parts : MarketParts) (m : Market) (count : ℕ) → IsSound m → AreOf parts m → count ≤ length m.events
    → AreOf (with_cranked (paid_bytes count (crank_given parts)) parts) (after_crank count m)
AreOf-cranked parts m zero sound are le = record {
  market = record { accepted = are.market.accepted; words = are.market.words };
  requests = record { accepted = are.requests.accepted; next = are.requests.next };
  events = record { accepted = are.events.accepted; ring = are.events.ring };
  bids = are.bids;
  bid_room = are.bid_room;
  asks = are.asks;
  ask_room = are.ask_room;
  traders = are.traders;
}
AreOf-cranked parts m (suc count) sound are le =
    let now : AreOf (with_cranked (paid_bytes count (crank_given parts)) parts) (after_crank count m) = AreOf-cranked parts m count sound are (omega arith) in
    subst (λ (behind : Market). AreOf (with_cranked (paid_bytes (suc count) (crank_given parts)) parts) behind) (next-crank count m)
    (AreOf-first (with_cranked (paid_bytes count (crank_given parts)) parts) (after_crank count m) (crank-sound_of count m sound) now (drop-some count m.events le))

-- ---- a queue and accounts that are those of one sound market

pub market-of : (bytes : CrankBytes) → AreOfSoundMarket bytes → (m : Market) × AreCrankedIn m bytes
market-of bytes is =
    let m = is.sound.market in
    (m, subst (AreCrankedIn m) is.given (AreCrankedIn-parts is.whole m is.sound.sound is.sound.are))

-- those after so many events were paid
pub cranked-now : (bytes now : CrankBytes) (m : Market) (count : ℕ) → AreCrankedIn m bytes → now ≡ paid_bytes count bytes → count ≤ length (events_of bytes.queue)
    → AreCrankedIn (after_crank count m) now
cranked-now bytes now m count parts is le =
    subst (AreCrankedIn (after_crank count m)) (sym is)
    (AreCrankedIn-bytes bytes m count parts (subst (λ (l : List QueuedEvent). count ≤ length l) parts.events le))

pub kept-now : (bytes now : CrankBytes) (m : Market) (count : ℕ) → AreCrankedIn m bytes → now ≡ paid_bytes count bytes → count ≤ length (events_of bytes.queue) → Keeps bytes now
kept-now bytes now m count parts is le =
    subst (Keeps bytes) (sym is) (Keeps-bytes bytes m count parts (subst (λ (l : List QueuedEvent). count ≤ length l) parts.events le))

-- an audit finds nothing in the accounts of a sound market
use Rattle.std.proofs.Common.{◌≡◌, ◌≢◌, ℕ, zero, suc, ◌+◌, ◌<◌, ◌≤◌, Bool, true, false, ◌&&◌, not, cond, eqb, ltb, List, [], ◌∷◌, ◌++◌, length, get_or, take, Option, Some, None, refl, sym, ap, ◌∙◌, subst, arith}
use Rattle.std.specs.List.{All}
use Rattle.std.proofs.lemmas.Bool.{and_from, and_parts, eq-eqb, ne_eqb, eqb-true, lt-ltb, false≢true}
use Rattle.std.proofs.lemmas.List.{append_assoc, get_or-take, get_or_default, length-append, length-take}
use Rattle.std.proofs.lemmas.List.Elements.{All-nil, All-cons, All-head, All-tail, All-append}
use Rattle.dex_types.specs.declared.addresses.Address.{Address}
use Rattle.dex_types.specs.declared.orders.Order.{Order}
use Rattle.dex_types.specs.declared.terms.Side.{Side}
use Rattle.dex_types.specs.declared.terms.Side.TheVariants.{Bid, Ask}
use Rattle.dex_types.specs.Addresses.{is_same}
use Rattle.dex_types.specs.Market.{Market, orders}
use Rattle.dex_types.specs.QueuedEvent.{QueuedEvent}
use Rattle.dex_types.specs.Side.{sequence_of}
use Rattle.dex_types.specs.Soundness.{AreDistinct, AreHeld, AreOfOthers, SlotsAgree, counts_final, event_holding, finals_of, held_at, held_by, is_final, is_one_order, order_holding, resting_of}
use Rattle.dex_types.specs.Trader.{Account, Holding, Trader, Blank, Closed, Open, Traders, trader_at}
use Rattle.dex_laws.specs.Places.{is_order_at}
use Rattle.dex_laws.proofs.TotalLaws.{total-append}
use Rattle.dex_laws.proofs.TraderLaws.{is_same-true}
use Rattle.dex_sound.proofs.PlaceLaws.{is_same_side-refl}
use Rattle.dex_audit_rules.specs.declared.taken.Taken.{Taken}
use Rattle.dex_audit_rules.specs.Lists.{numbered}
use Rattle.dex_totals.specs.Held.{is_held}
use Rattle.dex_totals.specs.Reading.{is_opened}
use Rattle.dex_audit_rules.specs.Slots.{astray, astray_in, holding, homeless, homeless_in, is_number_of, is_placed, misheld, misheld_in, number_of, of_open, or_else, repeated, repeated_in, taken_here, taken_in, ungiven, ungiven_in, unheld, unheld_finding, unpaired, unpaired_in}
use Rattle.dex_audit.proofs.AllLaws.{flat_map-nothing, none-append, numbered-all, numbered-nothing, open-nothing, taken_here-all, taken-all, unless-holds}
use Rattle.dex_audit.proofs.EventLaws.{is_one_order-false, take-front}
use Rattle.dex_audit.proofs.SlotLaws.{held-by-open, held-open}

-- one where it is so
abbrev one_if : Bool → ℕ
one_if test = cond test 1 0

-- ---- what is held

is_held-same : (held : Option Holding) (wanted : Holding) → held ≡ Some wanted → is_held held wanted ≡ true
is_held-same held wanted is =
    ap (λ (h : Option Holding). is_held h wanted) is
    ∙ and_from _ _ (and_from _ _ (eq-eqb wanted.id wanted.id refl) (is_same_side-refl wanted.side)) (eq-eqb wanted.client wanted.client refl)

opened-by : (found : Option Trader) (account : Account) → found ≡ Some (Open account) → is_opened found ≡ true
opened-by found account is = ap is_opened is

-- ---- 1

home : (m : Market) (side : Side) (order : Order) → held_at order.owner order.slot m.traders ≡ Some (order_holding side order) → is_opened (trader_at order.owner m.traders) ≡ true
home m side order here =
    let opened = held-by-open (trader_at order.owner m.traders) order.slot (order_holding side order) here in
    opened-by (trader_at order.owner m.traders) opened.0 opened.1

side-home : (m : Market) (side : Side) (account : Address) (resting : List Order) → All (λ (order : Order). held_at order.owner order.slot m.traders ≡ Some (order_holding side order)) resting
    → numbered (homeless m.traders account) 0 resting ≡ []
side-home m side account resting held =
    numbered-nothing (homeless m.traders account) resting
    (λ i d lt. unless-holds (is_opened (trader_at (get_or resting i d).owner m.traders)) _ (home m side (get_or resting i d) (held i d lt)))

pub no-homeless : (m : Market) → SlotsAgree m → homeless_in m ≡ []
no-homeless m agree = rw (side-home m Bid m.listing.bids m.bids (agree.resting Bid)) (side-home m Ask m.listing.asks m.asks (agree.resting Ask))

-- ---- 2

test-none : (here good : Bool) → (here ≡ true → good ≡ true) → (here && not good) ≡ false
test-none true true so = refl
test-none true false so = absurd (false≢true (so refl))
test-none false good so = refl

unheld-nothing : (owner : Address) (slot : ℕ) (held : Option Holding) (side : Side) (resting : List Order)
    → All (λ (order : Order). is_order_at owner slot order ≡ true → is_held held (order_holding side order) ≡ true) resting → unheld owner slot held side resting ≡ None
unheld-nothing owner slot held side [] each = refl
unheld-nothing owner slot held side (order ∷ others) each =
    let good = λ (o : Order). is_order_at owner slot o ≡ true → is_held held (order_holding side o) ≡ true in
    rw (test-none (is_order_at owner slot order) (is_held held (order_holding side order)) (All-head good order others each))
    (unheld-nothing owner slot held side others (All-tail good order others each))

-- an order that rests for the slot of an open account is held there
rests-here : (m : Market) (side : Side) (owner : Address) (account : Account) (slot : ℕ) (order : Order) → trader_at owner m.traders ≡ Some (Open account)
    → held_at order.owner order.slot m.traders ≡ Some (order_holding side order) → is_order_at owner slot order ≡ true
    → is_held (get_or account.slots slot None) (order_holding side order) ≡ true
rests-here m side owner account slot order found here at =
    let parts : (is_same owner order.owner ≡ true) × (eqb slot order.slot ≡ true) = and_parts (is_same owner order.owner) (eqb slot order.slot) at in
    let mine : trader_at order.owner m.traders ≡ Some (Open account) = ap (λ (a : Address). trader_at a m.traders) (sym (is_same-true owner order.owner parts.0)) ∙ found in
    let there : get_or account.slots order.slot None ≡ Some (order_holding side order) = sym (held-open order.owner order.slot account m.traders mine) ∙ here in
    is_held-same (get_or account.slots slot None) (order_holding side order)
    (ap (λ (n : ℕ). get_or account.slots n None) (eqb-true slot order.slot parts.1) ∙ there)

pub no-misheld : (m : Market) → AreDistinct m.traders → SlotsAgree m → misheld_in m ≡ []
no-misheld m apart agree =
    open-nothing (λ owner account. numbered (misheld m.bids m.asks owner) 0 account.slots) m.traders apart
    (λ owner account found.
    numbered-nothing (misheld m.bids m.asks owner) account.slots
    (λ slot d lt.
    let held : Option Holding = get_or account.slots slot d in
    let same : get_or account.slots slot None ≡ held = get_or_default account.slots slot None d lt in
    let side-none : (side : Side) → unheld owner slot held side (orders side m) ≡ None =
    λ side.
    unheld-nothing owner slot held side (orders side m)
    (λ k e within at.
    subst (λ (h : Option Holding). is_held h (order_holding side (get_or (orders side m) k e)) ≡ true) same
    (rests-here m side owner account slot (get_or (orders side m) k e) found (agree.resting side k e within) at)) in
    ap (λ (o : Option ℕ). unheld_finding owner slot held (or_else o (unheld owner slot held Ask m.asks))) (side-none Bid)
    ∙ ap (λ (o : Option ℕ). unheld_finding owner slot held o) (side-none Ask)))

-- ---- 3 and 5

pub no-unpaired : (m : Market) → AreDistinct m.traders → SlotsAgree m → unpaired_in m ≡ []
no-unpaired m apart agree =
    flat_map-nothing (unpaired m.bids m.asks m.events) (taken_in m.traders)
    (taken-all (λ (taken : Taken). unpaired m.bids m.asks m.events taken ≡ []) m.traders apart
    (λ owner slot held here.
    unless-holds (eqb (resting_of held m + finals_of held m.events) 1) _
    (eq-eqb (resting_of held m + finals_of held m.events) 1 (agree.taken owner slot held here))))

pub no-ungiven : (m : Market) → AreDistinct m.traders → SlotsAgree m → ungiven_in m ≡ []
no-ungiven m apart agree =
    flat_map-nothing (ungiven m.next_sequence) (taken_in m.traders)
    (taken-all (λ (taken : Taken). ungiven m.next_sequence taken ≡ []) m.traders apart
    (λ owner slot held here.
    unless-holds (ltb (sequence_of held.side held.id) m.next_sequence) _
    (lt-ltb (sequence_of held.side held.id) m.next_sequence (agree.given owner slot held here))))

-- ---- 4

zero_if : (final one : Bool) → (final ≡ true → one ≡ false) → one_if (final && one) ≡ 0
zero_if true one so = ap one_if (so refl)
zero_if false one so = refl

others-all : (held : Holding) (events : List QueuedEvent) → AreOfOthers held events → All (λ (event : QueuedEvent). is_one_order held (event_holding event) ≡ false) events
others-all held [] others = All-nil (λ (event : QueuedEvent). is_one_order held (event_holding event) ≡ false)
others-all held (event ∷ events) others =
    All-cons (λ (event : QueuedEvent). is_one_order held (event_holding event) ≡ false) event events others.0 (others-all held events others.1)

-- none of these events is a final out of the event's order
abbrev IsFirst : List QueuedEvent → QueuedEvent → Type 0
IsFirst before event = finals_of (event_holding event) before ≡ 0

first-behind : (before : List QueuedEvent) (event : QueuedEvent) (rest : List QueuedEvent) → (is_final event ≡ true → AreOfOthers (event_holding event) rest) → All (IsFirst before) rest
    → All (IsFirst (before ++ event ∷ [])) rest
first-behind before event rest others first k d lt =
    let later : QueuedEvent = get_or rest k d in
    let none : counts_final (event_holding later) event ≡ 0 =
    zero_if (is_final event) (is_one_order (event_holding later) (event_holding event))
    (λ final. is_one_order-false (event_holding event) (event_holding later) (others-all (event_holding event) rest (others final) k d lt)) in
    omega (arith, total-append (counts_final (event_holding later)) before (event ∷ []), first k d lt, none)

events-placed : (m : Market) (before rest : List QueuedEvent) → m.events ≡ before ++ rest → AreHeld m.traders rest → All (IsFirst before) rest
    → numbered (astray m.traders m.events m.listing.event_queue) (length before) rest ≡ []
events-placed m before [] are held first = refl
events-placed m before (event ∷ rest) are held first =
    let earlier : take (length before) m.events ≡ before = ap (take (length before)) are ∙ take-front before (event ∷ rest) in
    let placed : is_placed m.traders (take (length before) m.events) event ≡ true =
    and_from _ _ (is_held-same (held_at event.owner event.slot m.traders) (event_holding event) held.0)
    (eq-eqb (finals_of (event_holding event) (take (length before) m.events)) 0
    (ap (finals_of (event_holding event)) earlier ∙ All-head (IsFirst before) event rest first)) in
    let behind : numbered (astray m.traders m.events m.listing.event_queue) (length before + 1) rest ≡ [] =
    subst (λ (n : ℕ). numbered (astray m.traders m.events m.listing.event_queue) n rest ≡ []) (length-append before (event ∷ []))
    (events-placed m (before ++ event ∷ []) rest (are ∙ sym (append_assoc before (event ∷ []) rest)) held.2
    (first-behind before event rest held.1 (All-tail (IsFirst before) event rest first))) in
    none-append (astray m.traders m.events m.listing.event_queue (length before) event) (numbered (astray m.traders m.events m.listing.event_queue) (length before + 1) rest)
    (unless-holds (is_placed m.traders (take (length before) m.events) event) _ placed)
    behind

first-none : (events : List QueuedEvent) → All (IsFirst []) events
first-none events k d lt = refl

pub no-astray : (m : Market) → SlotsAgree m → astray_in m ≡ []
no-astray m agree = events-placed m [] m.events refl agree.pending (first-none m.events)

-- ---- 6

-- the two are not one slot
abbrev IsApart : Taken → Taken → Type 0
IsApart taken other = taken.owner ≡ other.owner → taken.slot ≡ other.slot → ⊥

abbrev AreApart : List Taken → Type 0
AreApart [] = Unit {0}
AreApart (taken ∷ others) = All (IsApart taken) others × AreApart others

apart-append : (xs ys : List Taken) → AreApart xs → AreApart ys → All (λ (x : Taken). All (IsApart x) ys) xs → AreApart (xs ++ ys)
apart-append [] ys own others cross = others
apart-append (x ∷ xs) ys own others cross = (
  All-append (IsApart x) xs ys own.0 (All-head (λ (x : Taken). All (IsApart x) ys) x xs cross),
  apart-append xs ys own.1 others (All-tail (λ (x : Taken). All (IsApart x) ys) x xs cross),
)

slots-from : (owner : Address) (first : ℕ) (slots : List (Option Holding)) → All (λ (taken : Taken). first ≤ taken.slot) (numbered (taken_here owner) first slots)
slots-from owner first slots =
    numbered-all (λ (taken : Taken). first ≤ taken.slot) (taken_here owner) first slots
    (λ i d lt. taken_here-all (λ (taken : Taken). first ≤ taken.slot) owner (first + i) (get_or slots i d) (λ held here. omega arith))

slots-of : (owner : Address) (first : ℕ) (slots : List (Option Holding)) → All (λ (taken : Taken). taken.owner ≡ owner) (numbered (taken_here owner) first slots)
slots-of owner first slots =
    numbered-all (λ (taken : Taken). taken.owner ≡ owner) (taken_here owner) first slots
    (λ i d lt. taken_here-all (λ (taken : Taken). taken.owner ≡ owner) owner (first + i) (get_or slots i d) (λ held here. refl))

slots-apart : (owner : Address) (first : ℕ) (slots : List (Option Holding)) → AreApart (numbered (taken_here owner) first slots)
slots-apart owner first [] = tt
slots-apart owner first (None ∷ slots) = slots-apart owner (first + 1) slots
slots-apart owner first (Some held ∷ slots) =
    ((λ k d lt mine same. let later = slots-from owner (first + 1) slots k d lt in omega (arith, same, later)), slots-apart owner (first + 1) slots)

-- a taken slot is listed as it is held
abbrev IsListed : Traders → Taken → Type 0
IsListed traders taken = held_at taken.owner taken.slot traders ≡ Some (holding taken)

all-listed : (traders : Traders) → AreDistinct traders → All (IsListed traders) (taken_in traders)
all-listed traders apart = taken-all (IsListed traders) traders apart (λ owner slot held here. here)

own-apart : (owner : Address) (trader : Trader) → AreApart (of_open (λ account. numbered (taken_here owner) 0 account.slots) trader)
own-apart owner Blank = tt
own-apart owner Closed = tt
own-apart owner (Open account) = slots-apart owner 0 account.slots

own-of : (owner : Address) (trader : Trader) → All (λ (taken : Taken). taken.owner ≡ owner) (of_open (λ account. numbered (taken_here owner) 0 account.slots) trader)
own-of owner Blank = All-nil (λ (taken : Taken). taken.owner ≡ owner)
own-of owner Closed = All-nil (λ (taken : Taken). taken.owner ≡ owner)
own-of owner (Open account) = slots-of owner 0 account.slots

taken-apart : (traders : Traders) → AreDistinct traders → AreApart (taken_in traders)
taken-apart [] apart = tt
taken-apart (entry ∷ others) apart =
    let own : List Taken = of_open (λ account. numbered (taken_here entry.0) 0 account.slots) entry.1 in
    apart-append own (taken_in others) (own-apart entry.0 entry.1) (taken-apart others apart.1)
    (λ k d lt j e within mine same.
    let other : Taken = get_or (taken_in others) j e in
    let listed : held_at other.owner other.slot others ≡ Some (holding other) = all-listed others apart.1 j e within in
    let owner : other.owner ≡ entry.0 = sym mine ∙ own-of entry.0 entry.1 k d lt in
    let none : held_at other.owner other.slot others ≡ None =
    ap (λ (a : Address). held_at a other.slot others) owner ∙ ap (λ (t : Option Trader). held_by t other.slot) apart.0 in
    let both : Some (holding other) ≡ None = sym listed ∙ none in
    absurd (cc))

apart-at : (all : List Taken) → AreApart all → (j i : ℕ) (d : Taken) → j < i → i < length all → IsApart (get_or all j d) (get_or all i d)
apart-at [] apart j i d below lt = absurd (omega arith)
apart-at (taken ∷ others) apart j zero d below lt = absurd (omega arith)
apart-at (taken ∷ others) apart zero (suc i) d below lt = apart.0 i d (omega arith)
apart-at (taken ∷ others) apart (suc j) (suc i) d below lt = apart-at others apart.1 j i d (omega arith) (omega arith)

no-number : (number : ℕ) (all : List Taken) → All (λ (taken : Taken). number_of taken ≢ number) all → is_number_of number all ≡ false
no-number number [] none = refl
no-number number (taken ∷ others) none =
    rw (ne_eqb (number_of taken) number (All-head (λ (taken : Taken). number_of taken ≢ number) taken others none))
    (no-number number others (All-tail (λ (taken : Taken). number_of taken ≢ number) taken others none))

pub no-repeated : (m : Market) → AreDistinct m.traders → SlotsAgree m → repeated_in m ≡ []
no-repeated m apart agree =
    let all : List Taken = taken_in m.traders in
    numbered-nothing (repeated all) all
    (λ i d lt.
    let number : ℕ = number_of (get_or all i d) in
    let none : is_number_of number (take i all) ≡ false =
    no-number number (take i all)
    (λ j e within equal.
    let below : j < i = omega (arith, within, length-take i all) in
    let before : j < length all = omega arith in
    let first : Taken = get_or all j d in
    let second : Taken = get_or all i d in
    let same : get_or (take i all) j e ≡ first = get_or-take i all j e below ∙ get_or_default all j e d before in
    let one = agree.once first.owner second.owner first.slot second.slot (holding first) (holding second)
    (all-listed m.traders apart j d before) (all-listed m.traders apart i d lt) (sym (ap number_of same) ∙ equal) in
    apart-at all (taken-apart m.traders apart) j i d below lt one.0 one.1) in
    unless-holds (not (is_number_of number (take i all))) _ (ap not none))

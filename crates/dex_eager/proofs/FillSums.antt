-- what fills bring and take, without slots and among other events; and what events owe and keep
use Rattle.std.proofs.Common.{ℕ, ◌+◌, ◌≡◌, Bool, true, false, cond, List, [], ◌∷◌, ◌++◌, map, refl, ap, ◌∙◌, arith}
use Rattle.dex_types.specs.declared.addresses.Address.{Address}
use Rattle.dex_types.specs.declared.terms.Side.{Side}
use Rattle.dex_types.specs.declared.terms.Side.TheVariants.{Bid, Ask}
use Rattle.dex_types.specs.Addresses.{is_same}
use Rattle.dex_types.specs.Owed.{owed, owed_as, leaving, leaving_as, kept, kept_as, is_event_of}
use Rattle.dex_types.specs.QueuedEvent.{EventKind, MakerFill, TakerFill, PlainOut, ReleasingOut, QueuedEvent}
use Rattle.dex_types.specs.Side.{Token, Coin, Pc}
use Rattle.dex_types.specs.Solvency.{own_kept}
use Rattle.dex_types.specs.Totals.{total, weighed_where}
use Rattle.dex_sound.specs.Exchange.{gained, gained_as}
use Rattle.dex_eager.specs.Slots.{with_fill, maker_fills}
use Rattle.dex_eager.specs.Worth.{own_owed}
use Rattle.dex_eager.proofs.MeetSlots.{event_without_slot}
use Rattle.dex_eager.proofs.WorthLists.{own_gained, own_leaving}

-- the fills among events without slots are those among the events
pub maker_fills-slots : (events : List QueuedEvent) → maker_fills (map event_without_slot events) ≡ maker_fills events
maker_fills-slots [] = refl
maker_fills-slots (event ∷ events) =
    ap (with_fill event.kind (event_without_slot event)) (maker_fills-slots events) ∙ same event.kind event (maker_fills events)
  where
    same : (kind : EventKind) (event : QueuedEvent) (fills : List QueuedEvent) → with_fill kind (event_without_slot event) fills ≡ with_fill kind event fills
    same (MakerFill side) event fills = refl
    same kind event fills = refl

-- the fills of two lists in one
pub maker_fills-append : (events later : List QueuedEvent) → maker_fills (events ++ later) ≡ maker_fills events ++ maker_fills later
maker_fills-append [] later = refl
maker_fills-append (event ∷ events) later =
    ap (with_fill event.kind event) (maker_fills-append events later) ∙ behind event.kind event (maker_fills events) (maker_fills later)
  where
    behind : (kind : EventKind) (event : QueuedEvent) (fills later : List QueuedEvent) → with_fill kind event (fills ++ later) ≡ with_fill kind event fills ++ later
    behind (MakerFill side) event fills later = refl
    behind kind event fills later = refl

-- an amount that fills alone have, whatever their slots
record IsOfFills (amount : EventKind → QueuedEvent → ℕ) : Type 0 where
  slot : (kind : EventKind) (event : QueuedEvent) → amount kind (event_without_slot event) ≡ amount kind event
  taker : (side : Side) (event : QueuedEvent) → amount (TakerFill side) event ≡ 0
  plain : (side : Side) (event : QueuedEvent) → amount (PlainOut side) event ≡ 0
  releasing : (side : Side) (event : QueuedEvent) → amount (ReleasingOut side) event ≡ 0

total-fills : (amount : EventKind → QueuedEvent → ℕ) → IsOfFills amount → (a : Address) (events : List QueuedEvent)
    → total (weighed_where (is_event_of a) (λ (e : QueuedEvent). amount e.kind e)) (maker_fills events)
    ≡ total (weighed_where (is_event_of a) (λ (e : QueuedEvent). amount e.kind e)) events
total-fills amount is a [] = refl
total-fills amount is a (event ∷ events) =
    one event.kind event (maker_fills events) refl
    ∙ ap (λ sum. cond (is_same a event.owner) (amount event.kind event) 0 + sum) (total-fills amount is a events)
  where
    weight : QueuedEvent → ℕ
    weight = weighed_where (is_event_of a) (λ (e : QueuedEvent). amount e.kind e)

    nothing : (own : Bool) (x more : ℕ) → x ≡ 0 → more ≡ cond own x 0 + more
    nothing true x more none = omega (arith, none)
    nothing false x more none = omega arith

    one : (kind : EventKind) (event : QueuedEvent) (fills : List QueuedEvent) → event.kind ≡ kind
        → total weight (with_fill kind event fills) ≡ cond (is_same a event.owner) (amount event.kind event) 0 + total weight fills
    one (MakerFill side) event fills same = ap (λ x. cond (is_same a event.owner) x 0 + total weight fills) (is.slot event.kind event)
    one (TakerFill side) event fills same = nothing (is_same a event.owner) _ _ (ap (λ kind. amount kind event) same ∙ is.taker side event)
    one (PlainOut side) event fills same = nothing (is_same a event.owner) _ _ (ap (λ kind. amount kind event) same ∙ is.plain side event)
    one (ReleasingOut side) event fills same = nothing (is_same a event.owner) _ _ (ap (λ kind. amount kind event) same ∙ is.releasing side event)

gained-fills : (token : Token) → IsOfFills (gained_as token)
gained-fills Coin = record { slot = slot; taker = λ side event. refl; plain = λ side event. refl; releasing = λ side event. refl }
  where
    slot : (kind : EventKind) (event : QueuedEvent) → gained_as Coin kind (event_without_slot event) ≡ gained_as Coin kind event
    slot (MakerFill Bid) event = refl
    slot kind event = refl
gained-fills Pc = record { slot = slot; taker = λ side event. refl; plain = λ side event. refl; releasing = λ side event. refl }
  where
    slot : (kind : EventKind) (event : QueuedEvent) → gained_as Pc kind (event_without_slot event) ≡ gained_as Pc kind event
    slot (MakerFill Ask) event = refl
    slot kind event = refl

leaving-fills : (token : Token) → IsOfFills (leaving_as token)
leaving-fills Coin = record { slot = slot; taker = λ side event. refl; plain = λ side event. refl; releasing = λ side event. refl }
  where
    slot : (kind : EventKind) (event : QueuedEvent) → leaving_as Coin kind (event_without_slot event) ≡ leaving_as Coin kind event
    slot (MakerFill Ask) event = refl
    slot kind event = refl
leaving-fills Pc = record { slot = slot; taker = λ side event. refl; plain = λ side event. refl; releasing = λ side event. refl }
  where
    slot : (kind : EventKind) (event : QueuedEvent) → leaving_as Pc kind (event_without_slot event) ≡ leaving_as Pc kind event
    slot (MakerFill Bid) event = refl
    slot kind event = refl

-- events bring and take what the fills among them do
pub own_gained-fills : (token : Token) (a : Address) (events : List QueuedEvent) → own_gained token a (maker_fills events) ≡ own_gained token a events
own_gained-fills token = total-fills (gained_as token) (gained-fills token)

pub own_leaving-fills : (token : Token) (a : Address) (events : List QueuedEvent) → own_leaving token a (maker_fills events) ≡ own_leaving token a events
own_leaving-fills token = total-fills (leaving_as token) (leaving-fills token)

event-amounts : (token : Token) (kind : EventKind) (event : QueuedEvent)
    → kept_as token kind event + gained_as token kind event ≡ leaving_as token kind event + owed_as token kind event
event-amounts Coin (MakerFill Bid) event = omega arith
event-amounts Coin (MakerFill Ask) event = omega arith
event-amounts Coin (TakerFill side) event = refl
event-amounts Coin (PlainOut side) event = refl
event-amounts Coin (ReleasingOut Bid) event = refl
event-amounts Coin (ReleasingOut Ask) event = omega arith
event-amounts Pc (MakerFill Bid) event = omega arith
event-amounts Pc (MakerFill Ask) event = omega arith
event-amounts Pc (TakerFill side) event = refl
event-amounts Pc (PlainOut side) event = refl
event-amounts Pc (ReleasingOut Bid) event = omega arith
event-amounts Pc (ReleasingOut Ask) event = refl

-- of each account: what events keep in its total and what fills bring is what fills take and what the events owe
pub own-amounts : (token : Token) (a : Address) (events : List QueuedEvent)
    → own_kept token a events + own_gained token a events ≡ own_leaving token a events + own_owed token a events
own-amounts token a [] = refl
own-amounts token a (event ∷ events) =
    one (is_same a event.owner) _ _ _ _ _ _ _ _ (event-amounts token event.kind event) (own-amounts token a events)
  where
    one : (own : Bool) (kept gained leaving owed more_kept more_gained more_leaving more_owed : ℕ)
        → kept + gained ≡ leaving + owed → more_kept + more_gained ≡ more_leaving + more_owed
        → (cond own kept 0 + more_kept) + (cond own gained 0 + more_gained) ≡ (cond own leaving 0 + more_leaving) + (cond own owed 0 + more_owed)
    one true kept gained leaving owed more_kept more_gained more_leaving more_owed first rest = omega (arith, first, rest)
    one false kept gained leaving owed more_kept more_gained more_leaving more_owed first rest = omega (arith, rest)

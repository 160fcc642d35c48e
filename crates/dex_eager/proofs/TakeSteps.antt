-- a take moves worth as its fills do
use Rattle.std.proofs.Common.{ℕ, ◌+◌, ◌-◌, ◌^◌, ◌≡◌, ◌<◌, ◌||◌, Bool, false, List, None, map, refl, sym, ap, ◌∙◌, subst, arith}
use Rattle.std.proofs.lemmas.Bool.{cond-false, lt-leb}
use Rattle.dex_types.specs.declared.addresses.Address.{Address}
use Rattle.dex_types.specs.declared.orders.Order.{Order}
use Rattle.dex_types.specs.declared.rows.Seen.{Seen}
use Rattle.dex_types.specs.declared.terms.Side.{Side}
use Rattle.dex_types.specs.declared.terms.Side.TheVariants.{Bid, Ask}
use Rattle.dex_types.specs.Market.{Market, orders}
use Rattle.dex_types.specs.Meeting.{TakerTerms, Demand, Meeting, meet}
use Rattle.dex_types.specs.Owed.{order_lock, owed, is_order_of, is_event_of}
use Rattle.dex_types.specs.QueuedEvent.{QueuedEvent}
use Rattle.dex_types.specs.Reasons.{ask_too_large}
use Rattle.dex_types.specs.Requests.{Request}
use Rattle.dex_types.specs.Side.{Token, Coin, Pc, by_side, opposite}
use Rattle.dex_types.specs.Solvency.{all_locked}
use Rattle.dex_types.specs.Soundness.{IsSound}
use Rattle.dex_types.specs.Steps.{Step, took}
use Rattle.dex_types.specs.Take.{Take, take_terms, take_demand, take_meeting, take_fee}
use Rattle.dex_types.specs.Totals.{total, weighed_where}
use Rattle.dex_types.specs.Why.{why_take}
use Rattle.dex_laws.proofs.MovedLaws.{IsTestOfOrder-owner, meet-moved_le}
use Rattle.dex_laws.proofs.TotalLaws.{total-append}
use Rattle.dex_sound.proofs.MeetSums.{met-locked, met-own}
use Rattle.dex_sound.proofs.OrderSoundReasons.{refused_where-none, take-none}
use Rattle.dex_sound.specs.Kept.{addresses, KeepsMarket}
use Rattle.dex_eager.specs.Eager.{Eager, eager_at, orders_on, with_fills, after_meeting, is_too_large, take_by, eager_take}
use Rattle.dex_eager.specs.Histories.{IsPaidAs}
use Rattle.dex_eager.specs.Slots.{without_slots, maker_fills}
use Rattle.dex_eager.specs.Worth.{Worth, Ledger, plus, net, with_step, held_for, worth_of}
use Rattle.dex_eager.proofs.CancelSlots.{by_side-slots}
use Rattle.dex_eager.proofs.FillSums.{maker_fills-slots, own_gained-fills, own_leaving-fills, own-amounts}
use Rattle.dex_eager.proofs.MeetSlots.{event_without_slot, meeting_without_slots, meet-slots}
use Rattle.dex_eager.proofs.StepMoves.{Moves, moves-inside, worths-moved, takings-moved, eager-same, appended-is}
use Rattle.dex_eager.proofs.WorthLists.{worths_by, worths-by, worths-agree, net-agree, with_fills-by, filled, filled-sum, own_gained, own_leaving}

-- the worth of each account after fills
abbrev pub worth_after_fills : List QueuedEvent → Market → Ledger → Address → Worth
worth_after_fills events m ledger a = plus (worth_of a m ledger) (net (λ token. own_gained token a events) (λ token. own_leaving token a events))

-- the eager market pays the makers of a meeting what its events bring and take
pub paid-makers : (m : Market) (ledger : Ledger) (events : List QueuedEvent)
    → with_fills (maker_fills (map event_without_slot events)) (eager_at m ledger).worths ≡ worths_by (worth_after_fills events m ledger) (addresses m.traders)
paid-makers m ledger events =
    let fills : List QueuedEvent = maker_fills events in
    ap (λ made. with_fills made (eager_at m ledger).worths) (maker_fills-slots events)
    ∙ ap (with_fills fills) (worths-by (λ a. worth_of a m ledger) m.traders)
    ∙ with_fills-by fills (λ a. worth_of a m ledger) (addresses m.traders)
    ∙ worths-agree (λ a. filled fills a (worth_of a m ledger)) (worth_after_fills events m ledger) (addresses m.traders)
    (λ a. filled-sum fills a (worth_of a m ledger)
    ∙ ap (plus (worth_of a m ledger))
    (net-agree (λ token. own_gained token a fills) (λ token. own_leaving token a fills) (λ token. own_gained token a events) (λ token. own_leaving token a events)
    (λ token. own_gained-fills token a events) (λ token. own_leaving-fills token a events)))

-- the orders of the eager market are the market's, without slots
pub orders_on-slots : (side : Side) (m : Market) (ledger : Ledger) → orders_on side (eager_at m ledger) ≡ without_slots (orders side m)
orders_on-slots side m ledger = by_side-slots side m.bids m.asks

pub sides-slots : (side : Side) (m : Market) (ledger : Ledger) (left : List Order)
    → without_slots (by_side side (orders side m) left) ≡ by_side side (orders_on side (eager_at m ledger)) (without_slots left)
sides-slots Bid m ledger left = refl
sides-slots Ask m ledger left = refl

pub other-sides-slots : (side : Side) (m : Market) (ledger : Ledger) (left : List Order)
    → without_slots (by_side side left (orders side m)) ≡ by_side side (without_slots left) (orders_on side (eager_at m ledger))
other-sides-slots Bid m ledger left = refl
other-sides-slots Ask m ledger left = refl

-- what the market holds for each account, after a meeting
take-held : (side : Side) (t : Take) (m : Market) (token : Token) (a : Address)
    → let met = take_meeting side m.listing.sizes t (orders (opposite side) m) in
    held_for token a (took side t m met).market + own_leaving token a met.events ≡ held_for token a m + own_gained token a met.events
take-held Bid t m Coin a =
    let terms : TakerTerms = take_terms m.listing.sizes t in
    let w : Demand = take_demand Bid m.listing.sizes t in
    omega (
      arith,
      met-locked (is_order_of a) (is_event_of a) (IsTestOfOrder-owner a) Bid terms w m.asks,
      own-amounts Coin a (meet Bid terms w m.asks).events,
      total-append (weighed_where (is_event_of a) (owed Coin)) m.events (meet Bid terms w m.asks).events,
    )
take-held Bid t m Pc a =
    let terms : TakerTerms = take_terms m.listing.sizes t in
    let w : Demand = take_demand Bid m.listing.sizes t in
    omega (
      arith,
      met-own (is_event_of a) Bid terms w m.asks,
      own-amounts Pc a (meet Bid terms w m.asks).events,
      total-append (weighed_where (is_event_of a) (owed Pc)) m.events (meet Bid terms w m.asks).events,
    )
take-held Ask t m Coin a =
    let terms : TakerTerms = take_terms m.listing.sizes t in
    let w : Demand = take_demand Ask m.listing.sizes t in
    omega (
      arith,
      met-own (is_event_of a) Ask terms w m.bids,
      own-amounts Coin a (meet Ask terms w m.bids).events,
      total-append (weighed_where (is_event_of a) (owed Coin)) m.events (meet Ask terms w m.bids).events,
    )
take-held Ask t m Pc a =
    let terms : TakerTerms = take_terms m.listing.sizes t in
    let w : Demand = take_demand Ask m.listing.sizes t in
    omega (
      arith,
      met-locked (is_order_of a) (is_event_of a) (IsTestOfOrder-owner a) Ask terms w m.bids,
      own-amounts Pc a (meet Ask terms w m.bids).events,
      total-append (weighed_where (is_event_of a) (owed Pc)) m.events (meet Ask terms w m.bids).events,
    )

-- the quote of an ask's fills is below 2^64, since bids locked it
pub ask-trades : (t : TakerTerms) (w : Demand) (m : Market) → t.sizes ≡ m.listing.sizes → IsSound m → (meet Ask t w m.bids).pc < 2 ^ 64
ask-trades t w m sizes sound =
    let locks : total (order_lock Bid t.sizes) m.bids ≡ all_locked Pc m = ap (λ s. total (order_lock Bid s) m.bids) sizes in
    omega (arith, meet-moved_le Ask t w m.bids, locks, sound.funds.solvent.vaults Pc, sound.funds.bounded Pc)

either-false : (first second : Bool) → first ≡ false → second ≡ false → (first || second) ≡ false
either-false first second none other = rw (none, other) refl

-- so an ask that is not refused as too large isn't
pub not-large : (side : Side) (lots : ℕ) (t : TakerTerms) (w : Demand) (m : Market) → t.sizes ≡ m.listing.sizes → IsSound m
    → ask_too_large side m.listing.sizes lots ≡ None
    → is_too_large side m.listing.sizes lots (meeting_without_slots (meet side t w (orders (opposite side) m))) ≡ false
not-large Bid lots t w m sizes sound none = refl
not-large Ask lots t w m sizes sound none =
    either-false _ _ (refused_where-none _ _ none) (lt-leb _ _ (ask-trades t w m sizes sound))

take-not_large : (side : Side) (t : Take) (request : Request) (seen : Seen) (m : Market) → why_take side t request seen m ≡ None
    → ask_too_large side m.listing.sizes t.lots ≡ None
take-not_large side t request seen m none = (take-none side t request seen m none).rest.size

-- a take does what it does on the eager market
pub taken-paid : (side : Side) (t : Take) (request : Request) (seen : Seen) (m : Market) (ledger : Ledger) (named : List Address)
    → IsSound m → why_take side t request seen m ≡ None
    → let met = take_meeting side m.listing.sizes t (orders (opposite side) m) in
    KeepsMarket m (took side t m met) → IsPaidAs m ledger named (took side t m met) (eager_take side t (eager_at m ledger))
taken-paid side t request seen m ledger named sound none keeps =
    let e : Eager = eager_at m ledger in
    let met : Meeting = take_meeting side m.listing.sizes t (orders (opposite side) m) in
    let s : Step = took side t m met in
    let gains : Token → Address → ℕ = λ token a. own_gained token a met.events in
    let pays : Token → Address → ℕ = λ token a. own_leaving token a met.events in
    let moves : Moves m named s gains pays (take_fee t met - met.rebates) =
    moves-inside m named s gains pays (take_fee t met - met.rebates) keeps (λ token. refl) (λ token. refl) (take-held side t m) (omega arith) in
    let paid : eager_take side t e ≡ record { market = after_meeting side (meeting_without_slots met) (take_fee t met) e; fills = maker_fills (map event_without_slot met.events) } =
    ap (λ opposing. take_by side t (take_meeting side e.sizes t opposing) e) (orders_on-slots (opposite side) m ledger)
    ∙ ap (λ m. take_by side t m e) (meet-slots side (take_terms m.listing.sizes t) (take_demand side m.listing.sizes t) (orders (opposite side) m))
    ∙ cond-false _ _ _ (not-large side t.lots (take_terms m.listing.sizes t) (take_demand side m.listing.sizes t) m refl sound (take-not_large side t request seen m none)) in
    let made : IsPaidAs m ledger named s (record { market = after_meeting side (meeting_without_slots met) (take_fee t met) e; fills = maker_fills (map event_without_slot met.events) }) = record {
      market = eager-same (eager_at s.market (with_step named s ledger)) (after_meeting side (meeting_without_slots met) (take_fee t met) e) refl refl refl
          (sides-slots side m ledger met.left) (other-sides-slots side m ledger met.left) refl
          (worths-moved m ledger named s gains pays (take_fee t met - met.rebates) moves ∙ sym (paid-makers m ledger met.events))
          (takings-moved m ledger named s gains pays (take_fee t met - met.rebates) moves);
      fills = ap maker_fills (appended-is m.events met.events) ∙ sym (maker_fills-slots met.events);
    } in
    subst (IsPaidAs m ledger named s) (sym paid) made

-- what holds of each event of a meeting: its order's words, its side, and amounts that fit
use Rattle.std.proofs.Common.{ℕ, ◌+◌, ◌-◌, ◌*◌, ◌≤◌, ◌≡◌, List, [], ◌∷◌, refl, subst, arith}
use Rattle.std.specs.List.{All, Contains}
use Rattle.std.proofs.Math.Nat.{add-mul}
use Rattle.std.proofs.lemmas.List.Elements.{All-nil, All-head, All-tail, All-append, All-contains_itself}
use Rattle.dex_types.specs.declared.orders.Order.{Order}
use Rattle.dex_types.specs.declared.terms.Side.{Side}
use Rattle.dex_types.specs.declared.terms.Side.TheVariants.{Bid, Ask}
use Rattle.dex_types.specs.Meeting.{TakerTerms, Demand, Meeting, event_of, fill_pc, fill_rebate, maker_fill, plain_out, releasing_out, met_events, met_lots, met_pc, met_rebate, met_first, meet}
use Rattle.dex_types.specs.QueuedEvent.{QueuedEvent, EventKind}
use Rattle.dex_types.specs.Side.{price_of, opposite}
use Rattle.dex_laws.specs.Fits.{EventFits, IsOfOneOf}
use Rattle.dex_types.specs.Owed.{order_lock}
use Rattle.dex_laws.specs.Locks.{locked}
use Rattle.dex_laws.proofs.BestFirstLaws.{All-met_events}
use Rattle.dex_laws.proofs.LockLaws.{lock-monotone}
use Rattle.dex_laws.proofs.MeetLaws.{meet-induction}

-- what holds of each event that an order of a kind can give holds of all events of a meeting with such orders
pub meet-each : (Q : Order → Type 0) (P : QueuedEvent → Type 0) (side : Side) (t : TakerTerms)
    → ((order : Order) (lots : ℕ) → Q order → lots ≤ order.lots → P (releasing_out (opposite side) t.sizes order lots))
    → ((order : Order) (lots : ℕ) → Q order → lots ≤ order.lots → P (maker_fill (opposite side) t order lots))
    → ((order : Order) → Q order → P (plain_out (opposite side) order))
    → (w : Demand) (orders : List Order) → All Q orders → All P (meet side t w orders).events
meet-each Q P side t release fill out = meet-induction side t (λ w orders met. All Q orders → All P met.events) (record {
  ended = λ w orders none each. All-nil P;
  part = λ w order others lots takes part each.
      All-append P (met_events side t order lots) [] (each-met order lots (All-head Q order others each) takes.within) (All-nil P);
  whole = λ w order others lots rest takes whole held each.
      All-append P (met_events side t order lots) rest.events (each-met order lots (All-head Q order others each) takes.within) (held (All-tail Q order others each));
})
  where
    each-met : (order : Order) (lots : ℕ) → Q order → lots ≤ order.lots → All P (met_events side t order lots)
    each-met order lots holds within =
        All-met_events P side t order lots (λ own. release order lots holds within) (λ other. (fill order lots holds within, out order holds))

-- each event carries the words of an order that was met: what holds of them there holds of them here
pub meet-words : (Q : Order → Type 0) (P : QueuedEvent → Type 0)
    → ((kind : EventKind) (order : Order) (released paid rebate : ℕ) → Q order → P (event_of kind order released paid rebate))
    → (side : Side) (t : TakerTerms) (w : Demand) (orders : List Order) → All Q orders → All P (meet side t w orders).events
meet-words Q P words side t =
    meet-each Q P side t (λ order lots holds within. words _ order _ _ _ holds) (λ order lots holds within. fill-words (opposite side) order lots holds)
    (λ order holds. words _ order _ _ _ holds)
  where
    fill-words : (maker : Side) (order : Order) (lots : ℕ) → Q order → P (maker_fill maker t order lots)
    fill-words Bid order lots holds = words _ order _ _ _ holds
    fill-words Ask order lots holds = words _ order _ _ _ holds

-- each event has the words of an order that stood on the side
pub meet-IsOfOneOf : (side : Side) (t : TakerTerms) (w : Demand) (orders : List Order) → All (IsOfOneOf orders) (meet side t w orders).events
meet-IsOfOneOf side t w orders =
    meet-words (Contains orders) (IsOfOneOf orders)
    (λ kind order released paid rebate stands. record { order = order; stands = stands; id = refl; owner = refl; slot = refl; tier = refl; client = refl })
    side t w orders (All-contains_itself orders)

-- the amounts of one fill, and of one release, fit where the meeting's do
fits-fill : (maker : Side) (t : TakerTerms) (order : Order) (lots bound : ℕ) → fill_pc t.sizes order lots + fill_rebate t order lots ≤ bound → lots * t.sizes.coin ≤ bound
    → EventFits bound (maker_fill maker t order lots)
fits-fill Bid t order lots bound pc coin = record { released = coin; paid = omega arith; fee_or_rebate = omega arith }
fits-fill Ask t order lots bound pc coin = record { released = pc; paid = coin; fee_or_rebate = omega arith }

fits-release : (maker : Side) (t : TakerTerms) (order : Order) (lots bound : ℕ) → lots ≤ order.lots → order_lock maker t.sizes order ≤ bound
    → EventFits bound (releasing_out maker t.sizes order lots)
fits-release maker t order lots bound within locks = record {
  released = omega (arith, lock-monotone maker t.sizes (price_of order.id) lots order.lots within);
  paid = omega (arith, lock-monotone maker t.sizes (price_of order.id) (order.lots - lots) order.lots (omega arith));
  fee_or_rebate = omega arith;
}

-- three bounds on a meeting: the quote with the rebates, the base, and what the side locks
record MeetingFits (side : Side) (t : TakerTerms) (bound : ℕ) (orders : List Order) (met : Meeting) : Type 0 where
  quote : met.pc + met.rebates ≤ bound
  base : met.lots * t.sizes.coin ≤ bound
  locks : locked (opposite side) t.sizes orders ≤ bound

-- of one order, where the meeting that begins with it fits
fits-met : (side : Side) (t : TakerTerms) (bound : ℕ) (order : Order) (others : List Order) (lots : ℕ) (rest : Meeting) → lots ≤ order.lots
    → MeetingFits side t bound (order ∷ others) (met_first side t order lots rest) → All (EventFits bound) (met_events side t order lots)
fits-met side t bound order others lots rest within fits =
    All-met_events (EventFits bound) side t order lots
    (λ own. fits-release (opposite side) t order lots bound within (omega (arith, fits.locks)))
    (λ other.
    let pc : met_pc t order lots ≡ fill_pc t.sizes order lots = rw other refl in
    let rebate : met_rebate t order lots ≡ fill_rebate t order lots = rw other refl in
    let same : met_lots t order lots ≡ lots = rw other refl in
    let coin : lots * t.sizes.coin ≤ bound =
    subst (λ l. l * t.sizes.coin ≤ bound) same (omega (arith, fits.base, add-mul (met_lots t order lots) rest.lots t.sizes.coin)) in (
      fits-fill (opposite side) t order lots bound (omega (arith, fits.quote, pc, rebate)) coin,
      record { released = omega arith; paid = omega arith; fee_or_rebate = omega arith },
    ))

fits-rest : (side : Side) (t : TakerTerms) (bound : ℕ) (order : Order) (others : List Order) (lots : ℕ) (rest : Meeting)
    → MeetingFits side t bound (order ∷ others) (met_first side t order lots rest) → MeetingFits side t bound others rest
fits-rest side t bound order others lots rest fits = record {
  quote = omega (arith, fits.quote);
  base = omega (arith, fits.base, add-mul (met_lots t order lots) rest.lots t.sizes.coin);
  locks = omega (arith, fits.locks);
}

-- the amounts of each event are at most a bound of what the meeting trades and of what the side locked
fits-all : (side : Side) (t : TakerTerms) (bound : ℕ) (w : Demand) (orders : List Order)
    → MeetingFits side t bound orders (meet side t w orders) → All (EventFits bound) (meet side t w orders).events
fits-all side t bound = meet-induction side t (λ w orders met. MeetingFits side t bound orders met → All (EventFits bound) met.events) (record {
  ended = λ w orders none fits. All-nil (EventFits bound);
  part = λ w order others lots takes part fits.
      All-append (EventFits bound) (met_events side t order lots) [] (fits-met side t bound order others lots _ takes.within fits) (All-nil (EventFits bound));
  whole = λ w order others lots rest takes whole held fits.
      All-append (EventFits bound) (met_events side t order lots) rest.events (fits-met side t bound order others lots rest takes.within fits)
      (held (fits-rest side t bound order others lots rest fits));
})

-- so they fit a bound of the quote with the rebates, of the base, and of what the side locked
pub meet-EventFits : (side : Side) (t : TakerTerms) (bound : ℕ) (w : Demand) (orders : List Order)
    → (meet side t w orders).pc + (meet side t w orders).rebates ≤ bound → (meet side t w orders).lots * t.sizes.coin ≤ bound
    → locked (opposite side) t.sizes orders ≤ bound → All (EventFits bound) (meet side t w orders).events
meet-EventFits side t bound w orders quote base locks = fits-all side t bound w orders (record { quote = quote; base = base; locks = locks })

-- how a meeting with a side of the book goes on: what is met so far, joined to the meeting of what is left, is the
-- whole meeting
use Rattle.std.proofs.Common.{◌≡◌, ℕ, ◌+◌, ◌*◌, ◌^◌, ◌<◌, ◌≤◌, List, [], ◌∷◌, ◌++◌, Option, Some, eqb, length, drop, refl, sym, ap, ◌∙◌, subst, arith, inl, inr, length-append}
use Rattle.std.specs.List.{All}
use Rattle.std.proofs.Math.Nat.{mul-le-mul_right}
use Rattle.std.proofs.lemmas.Bool.{cases_lt, cond-true, cond_both, eq-eqb}
use Rattle.std.proofs.lemmas.List.Elements.{All-head, All-tail}
use Rattle.dex_types.specs.declared.orders.Order.{Order}
use Rattle.dex_types.specs.declared.terms.Side.{Side}
use Rattle.dex_types.specs.declared.terms.Side.TheVariants.{Bid}
use Rattle.dex_types.specs.BookSide.{best_of, order_after, with_lots, CanRest, IsBookSide}
use Rattle.dex_types.specs.Cancel.{order_with, without_order}
use Rattle.dex_types.specs.Posting.{still_crosses}
use Rattle.dex_types.specs.Side.{crosses, price_of}
use Rattle.dex_laws.specs.Walks.{orders_from, IsReached}
use Rattle.dex_laws.proofs.WalkLaws.{walk-step}
use Rattle.dex_types.specs.Meeting.{TakerTerms, Demand, Meeting, meet, taken, aborts_at, met_first, met_none, met_events, met_lots, met_pc, met_rebate}
use Rattle.dex_fills.specs.declared.met.Met.{Met}
use Rattle.dex_fills.specs.declared.wants.Sums.{Sums}
use Rattle.dex_ring.specs.Ring.{Ring}
use Rattle.dex_fills.specs.declared.side_walk.Prospect.{Prospect}
use Rattle.dex_fills.specs.Prospects.{FitsSums, IsForeseen, IsMet}
use Rattle.dex_ring.specs.Appended.{appended, HasRoom, pushed_all}
use Rattle.dex_fills.specs.declared.fills.Fill.{Fill}
use Rattle.dex_fills.specs.declared.wants.MeetingTerms.{MeetingTerms}
use Rattle.dex_fills.specs.Taker.{demand, fill_met, taking}
use Rattle.dex_fills.proofs.MeetingSteps.{meet-whole, meet-part, taken-le}
use Rattle.dex_ring.proofs.AppendLaws.{appended-counted, appended-more, appended-none, HasRoom-first, HasRoom-same, pushed_all-pushed_all}

-- what was met so far, joined to the meeting of what is left, is the whole, apart from its events
pub record IsCarried (whole rest : Meeting) (sums : Sums) : Type 0 where
  pub left : rest.left ≡ whole.left
  pub demand : rest.demand ≡ whole.demand
  pub lots : sums.lots + rest.lots ≡ whole.lots
  pub pc : sums.pc + rest.pc ≡ whole.pc
  pub rebates : sums.rebates + rest.rebates ≡ whole.rebates
  pub aborts : rest.aborts ≡ whole.aborts

-- at the start nothing is met
pub carried-start : (whole : Meeting) → IsCarried whole whole (record { lots = 0; pc = 0; rebates = 0 })
carried-start whole = record {
  left = refl;
  demand = refl;
  lots = omega arith;
  pc = omega arith;
  rebates = omega arith;
  aborts = refl;
}

-- the sums with those of one more order
pub record AddsOrder (t : TakerTerms) (order : Order) (n : ℕ) (sums sums' : Sums) : Type 0 where
  pub lots : sums'.lots ≡ sums.lots + met_lots t order n
  pub pc : sums'.pc ≡ sums.pc + met_pc t order n
  pub rebates : sums'.rebates ≡ sums.rebates + met_rebate t order n

-- one more order is met
pub carried-more : (side : Side) (t : TakerTerms) (order : Order) (lots : ℕ) (whole met rest : Meeting) (sums sums' : Sums) → IsCarried whole met sums
    → met ≡ met_first side t order lots rest → AddsOrder t order lots sums sums' → IsCarried whole rest sums'
carried-more side t order lots whole met rest sums sums' carried first adds =
    let l : met.left ≡ rest.left = ap (λ (m : Meeting). m.left) first in
    let w : met.demand ≡ rest.demand = ap (λ (m : Meeting). m.demand) first in
    let a : met.lots ≡ met_lots t order lots + rest.lots = ap (λ (m : Meeting). m.lots) first in
    let b : met.pc ≡ met_pc t order lots + rest.pc = ap (λ (m : Meeting). m.pc) first in
    let c : met.rebates ≡ met_rebate t order lots + rest.rebates = ap (λ (m : Meeting). m.rebates) first in
    let d : met.aborts ≡ rest.aborts = ap (λ (m : Meeting). m.aborts) first in
    record {
      left = sym l ∙ carried.left;
      demand = sym w ∙ carried.demand;
      lots = omega (arith, carried.lots, a, adds.lots);
      pc = omega (arith, carried.pc, b, adds.pc);
      rebates = omega (arith, carried.rebates, c, adds.rebates);
      aborts = sym d ∙ carried.aborts;
    }

-- the events that were counted so far, with those of one more order
pub counted-more : (side : Side) (t : TakerTerms) (order : Order) (lots count : ℕ) (whole met rest : Meeting) → count + length met.events ≡ length whole.events
    → met ≡ met_first side t order lots rest → (count + length (met_events side t order lots)) + length rest.events ≡ length whole.events
counted-more side t order lots count whole met rest counted first =
    let e : length met.events ≡ length (met_events side t order lots ++ rest.events) = ap (λ (m : Meeting). length m.events) first in
    omega (arith, counted, e, length-append (met_events side t order lots) rest.events)

-- with nothing left to meet, what was met is the whole
pub carried-ended : (side : Side) (t : TakerTerms) (whole rest : Meeting) (met : Met) (left : List Order) → IsCarried whole rest met.sums → rest ≡ met_none side t (demand met.want) left → IsMet whole met
carried-ended side t whole rest met left carried none =
    let w : rest.demand ≡ demand met.want = ap (λ (m : Meeting). m.demand) none in
    let a : rest.lots ≡ 0 = ap (λ (m : Meeting). m.lots) none in
    let b : rest.pc ≡ 0 = ap (λ (m : Meeting). m.pc) none in
    let c : rest.rebates ≡ 0 = ap (λ (m : Meeting). m.rebates) none in
    record {
      demand = sym w ∙ carried.demand;
      lots = omega (arith, carried.lots, a);
      pc = omega (arith, carried.pc, b);
      rebates = omega (arith, carried.rebates, c);
    }

-- the best order of a side stands first, and changing it or taking it out changes the front alone
pub record IsFirst (order : Order) (orders : List Order) : Type 0 where
  pub is : orders ≡ order ∷ drop 1 orders
  pub rests : order_with order.id orders ≡ Some order
  pub without : without_order order.id orders ≡ drop 1 orders
  pub with : (lots : ℕ) → with_lots order.id lots orders ≡ record order { lots = lots } ∷ drop 1 orders

pub best-first : (order : Order) (orders : List Order) → best_of orders ≡ Some order → IsFirst order orders
best-first order [] best = absurd cc
best-first order (first ∷ others) best =
    let is : first ≡ order = cc in
    subst (λ (o : Order). IsFirst o (first ∷ others)) is (record {
      is = refl;
      rests = cond-true _ _ _ (eq-eqb first.id first.id refl);
      without = cond-true _ _ _ (eq-eqb first.id first.id refl);
      with = λ lots. cond-true _ _ _ (eq-eqb first.id first.id refl);
    })

-- an order that is met comes first in the meeting
pub record MeetsFirst (side : Side) (t : TakerTerms) (w : Demand) (orders : List Order) (order : Order) (lots : ℕ) : Type 0 where
  pub rest : Meeting
  pub is : meet side t w orders ≡ met_first side t order lots rest

pub meets-first : (side : Side) (t : TakerTerms) (w : Demand) (orders : List Order) (order : Order) (others : List Order) (lots : ℕ) → orders ≡ order ∷ others
    → lots ≡ taken side t w order → 0 < lots → MeetsFirst side t w orders order lots
meets-first side t w orders order others lots e is some =
    elim (cases_lt lots order.lots) [
      | inl part ↦ record { rest = _; is = meet-part side t w orders order others lots e is some part }
      | inr all ↦ record { rest = _; is = meet-whole side t w orders order others lots e is some all }
    ]

-- what the calls that record one more order require
pub record FitsOrder (side : Side) (t : TakerTerms) (order : Order) (lots : ℕ) (sums : Sums) : Type 0 where
  pub base : met_lots t order lots * t.sizes.coin < 2 ^ 64
  pub pc_met : met_pc t order lots < 2 ^ 64
  pub received : side ≡ Bid → met_pc t order lots + met_rebate t order lots < 2 ^ 64
  pub lots_fit : sums.lots + met_lots t order lots < 2 ^ 64
  pub pc_fits : sums.pc + met_pc t order lots < 2 ^ 64
  pub rebates_fit : sums.rebates + met_rebate t order lots < 2 ^ 64

pub fits-order : (side : Side) (t : TakerTerms) (whole met rest : Meeting) (sums : Sums) (order : Order) (lots : ℕ) → FitsSums side t.sizes whole → IsCarried whole met sums
    → met ≡ met_first side t order lots rest → FitsOrder side t order lots sums
fits-order side t whole met rest sums order lots fits carried first =
    let a : met.lots ≡ met_lots t order lots + rest.lots = ap (λ (m : Meeting). m.lots) first in
    let b : met.pc ≡ met_pc t order lots + rest.pc = ap (λ (m : Meeting). m.pc) first in
    let c : met.rebates ≡ met_rebate t order lots + rest.rebates = ap (λ (m : Meeting). m.rebates) first in
    let at_most : met_lots t order lots ≤ whole.lots = omega (arith, a, carried.lots) in
    let base : met_lots t order lots * t.sizes.coin ≤ whole.lots * t.sizes.coin = mul-le-mul_right t.sizes.coin at_most in
    record {
      base = omega (arith, fits.base, base);
      pc_met = omega (arith, fits.pc, b, carried.pc);
      received = λ bid. omega (arith, fits.received bid, b, c, carried.pc, carried.rebates);
      lots_fit = omega (arith, fits.lots, a, carried.lots);
      pc_fits = omega (arith, fits.pc, b, carried.pc);
      rebates_fit = omega (arith, fits.rebates, c, carried.rebates);
    }

-- the sums with what the order moves fit 64 bits
pub record FitsFill (side : Side) (fill : Fill) (sums : Sums) : Type 0 where
  pub received : side ≡ Bid → fill.pc + fill.rebate < 2 ^ 64
  pub lots_fit : sums.lots + fill.lots < 2 ^ 64
  pub pc_fits : sums.pc + fill.pc < 2 ^ 64
  pub rebates_fit : sums.rebates + fill.rebate < 2 ^ 64

pub fits-fill : (side : Side) (taker : MeetingTerms) (order : Order) (lots : ℕ) (sums : Sums) (fill : Fill) → FitsOrder side (taking taker) order lots sums → fill ≡ fill_met taker order lots
    → FitsFill side fill sums
fits-fill side taker order lots sums fill fits is =
    subst (λ (f : Fill). FitsFill side f sums) (sym is) (record { received = fits.received; lots_fit = fits.lots_fit; pc_fits = fits.pc_fits; rebates_fit = fits.rebates_fit })

-- an order of a side that is met: it is the best one, can rest, and loses at most its lots
pub record MeetsOrder (side : Side) (t : TakerTerms) (w : Demand) (orders : List Order) (order : Order) (lots : ℕ) : Type 0 where
  pub first : IsFirst order orders
  pub meets : MeetsFirst side t w orders order lots
  pub can_rest : CanRest order
  pub of_order : lots ≤ order.lots

pub meets-order : (side own : Side) (room : ℕ) (t : TakerTerms) (w : Demand) (orders : List Order) (order : Order) (lots : ℕ) → IsBookSide own room orders
    → best_of orders ≡ Some order → lots ≡ taken side t w order → 0 < lots → MeetsOrder side t w orders order lots
meets-order side own room t w orders order lots held best is some =
    let first : IsFirst order orders = best-first order orders best in record {
      first = first;
      meets = meets-first side t w orders order (drop 1 orders) lots first.is is some;
      can_rest = All-head CanRest order (drop 1 orders) (subst (All CanRest) first.is held.can_rest);
      of_order = omega (arith, is, taken-le side t w order);
    }

-- the events of one more order are appended, and those of the rest of the meeting are still to be
pub joined-more : (side : Side) (t : TakerTerms) (order : Order) (lots : ℕ) (met rest : Meeting) (ring next goal : Ring) → appended met.events ring ≡ goal
    → met ≡ met_first side t order lots rest → next ≡ appended (met_events side t order lots) ring → appended rest.events next ≡ goal
joined-more side t order lots met rest ring next goal joined first more =
    appended-more (met_events side t order lots) rest.events ring next goal (subst (λ (m : Meeting). appended m.events ring ≡ goal) first joined) more

-- where nothing more is met, all is appended
pub joined-ended : (side : Side) (t : TakerTerms) (order : Order) (lots : ℕ) (met : Meeting) (w : Demand) (left : List Order) (ring next goal : Ring) → appended met.events ring ≡ goal
    → met ≡ met_first side t order lots (met_none side t w left) → next ≡ appended (met_events side t order lots) ring → next ≡ goal
joined-ended side t order lots met w left ring next goal joined first more =
    sym (appended-none next (appended-counted (met_events side t order lots) ring next more))
    ∙ joined-more side t order lots met (met_none side t w left) ring next goal joined first more

-- the bytes after the events of one order are those after all events, where the rest is still to come
pub written-more : (side : Side) (t : TakerTerms) (order : Order) (lots : ℕ) (met rest : Meeting) (bytes next goal : List ℕ) → pushed_all met.events bytes ≡ goal
    → met ≡ met_first side t order lots rest → next ≡ pushed_all (met_events side t order lots) bytes → pushed_all rest.events next ≡ goal
written-more side t order lots met rest bytes next goal written first more =
    ap (pushed_all rest.events) more ∙ pushed_all-pushed_all (met_events side t order lots) rest.events bytes
    ∙ subst (λ (m : Meeting). pushed_all m.events bytes ≡ goal) first written

pub written-same : (rest now : Meeting) (bytes goal : List ℕ) → rest ≡ now → pushed_all rest.events bytes ≡ goal → pushed_all now.events bytes ≡ goal
written-same rest now bytes goal same written = subst (λ (m : Meeting). pushed_all m.events bytes ≡ goal) same written

-- a carried meeting, by another name for what is left to meet
pub carried-same : (whole rest now : Meeting) (sums : Sums) → rest ≡ now → IsCarried whole rest sums → IsCarried whole now sums
carried-same whole rest now sums same carried = subst (λ (m : Meeting). IsCarried whole m sums) same carried

pub joined-same : (rest now : Meeting) (ring goal : Ring) → rest ≡ now → appended rest.events ring ≡ goal → appended now.events ring ≡ goal
joined-same rest now ring goal same joined = subst (λ (m : Meeting). appended m.events ring ≡ goal) same joined

-- the queue has room for the events of the order that is met next
pub joined-room : (side : Side) (t : TakerTerms) (order : Order) (lots : ℕ) (met rest whole : Meeting) (ring before : Ring) → appended met.events ring ≡ appended whole.events before
    → met ≡ met_first side t order lots rest → HasRoom (length whole.events) before → HasRoom (length (met_events side t order lots)) ring
joined-room side t order lots met rest whole ring before joined first room =
    HasRoom-first (met_events side t order lots) rest.events ring
    (HasRoom-same (met_events side t order lots ++ rest.events) whole.events ring before
    (subst (λ (m : Meeting). appended m.events ring ≡ appended whole.events before) first joined) room)

-- what holds of each order holds of one that is found
All-found : (P : Order → Type 0) (id : ℕ) (order : Order) (orders : List Order) → order_with id orders ≡ Some order → All P orders → P order
All-found P id order [] found all = absurd cc
All-found P id order (first ∷ others) found all =
    cond_both (eqb first.id id) (Some first) (order_with id others) (λ (o : Option Order). o ≡ Some order → P order)
    (λ same e. let is : first ≡ order = cc in subst P is (All-head P first others all))
    (λ apart e. All-found P id order others e (All-tail P first others all)) found

-- a walk along a side that has reached an order: it can rest, and after it stand the others
pub record WalksOn (order : Order) (orders : List Order) (next : Option Order) : Type 0 where
  pub others : List Order
  pub is : orders_from next orders ≡ order ∷ others
  pub follows : orders_from (order_after order.id orders) orders ≡ others
  pub reached : IsReached (order_after order.id orders) orders
  pub can_rest : CanRest order

pub walks-on : (side : Side) (room : ℕ) (orders : List Order) (next : Option Order) (order : Order) → IsBookSide side room orders → next ≡ Some order → IsReached next orders
    → WalksOn order orders next
walks-on side room orders next order held is reached =
    let found : IsReached (Some order) orders = subst (λ o. IsReached o orders) is reached in
    let step = walk-step side orders order held.in_order found in record {
      others = orders_from (order_after order.id orders) orders;
      is = ap (λ o. orders_from o orders) is ∙ step.0;
      follows = refl;
      reached = step.1;
      can_rest = All-found CanRest order.id order orders found held.can_rest;
    }

-- a prospect of a taker that goes no further, with this best order left
pub foreseen-ended : (side : Side) (t : TakerTerms) (limit : ℕ) (whole rest : Meeting) (met : Met) (events : ℕ) (order : Order) (others : List Order) (prospect : Prospect)
    → IsCarried whole rest met.sums → events + length rest.events ≡ length whole.events → rest ≡ met_none side t (demand met.want) (order ∷ others)
    → prospect.met ≡ met → prospect.events ≡ events → prospect.crosses ≡ crosses side limit (price_of order.id)
    → prospect.aborts ≡ aborts_at side t (demand met.want) (order ∷ others) → IsForeseen side limit whole prospect
foreseen-ended side t limit whole rest met events order others prospect carried counted none met_is events_is crosses_is aborts_is =
    let left : order ∷ others ≡ whole.left = sym (ap (λ (m : Meeting). m.left) none) ∙ carried.left in
    let aborts : aborts_at side t (demand met.want) (order ∷ others) ≡ whole.aborts = sym (ap (λ (m : Meeting). m.aborts) none) ∙ carried.aborts in
    let no_events : length rest.events ≡ 0 = ap (λ (m : Meeting). length m.events) none in
    record {
      met = subst (IsMet whole) (sym met_is) (carried-ended side t whole rest met (order ∷ others) carried none);
      events = omega (arith, events_is, counted, no_events);
      crosses = crosses_is ∙ ap (still_crosses side limit) left;
      aborts = aborts_is ∙ aborts;
    }

-- laws of the events of a meeting: how many there are, and of which orders
use Rattle.std.proofs.Common.{ℕ, suc, ◌+◌, ◌*◌, ◌≤◌, ◌<◌, ◌≡◌, ⊎_elim, true, false, eqb, List, [], ◌∷◌, length, refl, ap, arith, length-append}
use Rattle.std.proofs.lemmas.Bool.{cases_Bool, cond_both}
use Rattle.dex_types.specs.declared.orders.Order.{Order}
use Rattle.dex_types.specs.declared.terms.Side.{Side}
use Rattle.dex_types.specs.declared.terms.Side.TheVariants.{Bid, Ask}
use Rattle.dex_types.specs.Meeting.{TakerTerms, Demand, is_own, maker_fill, plain_out, met_events, meet}
use Rattle.dex_types.specs.Side.{opposite}
use Rattle.dex_laws.specs.Moved.{meets_one}
use Rattle.dex_types.specs.Totals.{total}
use Rattle.dex_laws.proofs.MeetLaws.{meet-induction}
use Rattle.dex_laws.proofs.MovedLaws.{met_events-own, met_events-part}
use Rattle.dex_laws.proofs.TotalLaws.{total-append}
use Rattle.dex_laws.proofs.DemandLaws.{demand_after-matches}

-- one order gives at most two events, and one where lots of it are left
length-met_events : (side : Side) (t : TakerTerms) (order : Order) (lots : ℕ) → length (met_events side t order lots) ≤ 2
length-met_events side t order lots =
    ⊎_elim (λ (own : is_own t.owner order ≡ true). rw own (omega arith))
    (λ (other : is_own t.owner order ≡ false). rw other
    (cond_both (eqb lots order.lots) (plain_out (opposite side) order ∷ []) [] (λ outs. suc (length outs) ≤ 2) (λ whole. omega arith) (λ part. omega arith)))
    (cases_Bool (is_own t.owner order))

length-met_events_part : (side : Side) (t : TakerTerms) (order : Order) (lots : ℕ) → lots < order.lots → length (met_events side t order lots) ≡ 1
length-met_events_part side t order lots part =
    ⊎_elim (λ (own : is_own t.owner order ≡ true). ap length (met_events-own side t order lots own))
    (λ (other : is_own t.owner order ≡ false). ap length (met_events-part side t order lots other part))
    (cases_Bool (is_own t.owner order))

-- at most two events for each order that left, and one more
pub length-meet_events : (side : Side) (t : TakerTerms) (w : Demand) (orders : List Order)
    → length (meet side t w orders).events + 2 * length (meet side t w orders).left ≤ 2 * length orders + 1
length-meet_events side t = meet-induction side t (λ w orders met. length met.events + 2 * length met.left ≤ 2 * length orders + 1) (record {
  ended = λ w orders none. omega arith;
  part = λ w order others lots takes part.
      omega (arith, length-append (met_events side t order lots) [], length-met_events_part side t order lots part);
  whole = λ w order others lots rest takes whole held.
      omega (arith, length-append (met_events side t order lots) rest.events, length-met_events side t order lots);
})

-- at most two events for each match that was used
pub length-meet_matches : (side : Side) (t : TakerTerms) (w : Demand) (orders : List Order)
    → length (meet side t w orders).events + 2 * (meet side t w orders).demand.matches ≤ 2 * w.matches
length-meet_matches side t = meet-induction side t (λ w orders met. length met.events + 2 * met.demand.matches ≤ 2 * w.matches) (record {
  ended = λ w orders none. omega arith;
  part = λ w order others lots takes part.
      omega (arith, length-append (met_events side t order lots) [], length-met_events side t order lots, demand_after-matches side t w order lots, takes.may_meet);
  whole = λ w order others lots rest takes whole held.
      omega (arith, length-append (met_events side t order lots) rest.events, length-met_events side t order lots, demand_after-matches side t w order lots, takes.may_meet);
})

-- one event counts each order that was met, and each such order used one match
meets_one-fill : (maker : Side) (t : TakerTerms) (order : Order) (lots : ℕ) → meets_one (maker_fill maker t order lots) ≡ 1
meets_one-fill Bid t order lots = refl
meets_one-fill Ask t order lots = refl

total-meets_one : (side : Side) (t : TakerTerms) (order : Order) (lots : ℕ) → total meets_one (met_events side t order lots) ≡ 1
total-meets_one side t order lots =
    ⊎_elim (λ (own : is_own t.owner order ≡ true). rw own refl)
    (λ (other : is_own t.owner order ≡ false). rw other
    (cond_both (eqb lots order.lots) (plain_out (opposite side) order ∷ []) [] (λ outs. meets_one (maker_fill (opposite side) t order lots) + total meets_one outs ≡ 1)
    (λ whole. omega (arith, meets_one-fill (opposite side) t order lots)) (λ part. omega (arith, meets_one-fill (opposite side) t order lots))))
    (cases_Bool (is_own t.owner order))

-- the orders that were met and the matches that are left are the matches that there were
pub meet-meets_one : (side : Side) (t : TakerTerms) (w : Demand) (orders : List Order)
    → total meets_one (meet side t w orders).events + (meet side t w orders).demand.matches ≡ w.matches
meet-meets_one side t = meet-induction side t (λ w orders met. total meets_one met.events + met.demand.matches ≡ w.matches) (record {
  ended = λ w orders none. omega arith;
  part = λ w order others lots takes part.
      omega (arith, total-append meets_one (met_events side t order lots) [], total-meets_one side t order lots, demand_after-matches side t w order lots, takes.may_meet);
  whole = λ w order others lots rest takes whole held.
      omega (arith, total-append meets_one (met_events side t order lots) rest.events, total-meets_one side t order lots, demand_after-matches side t w order lots, takes.may_meet);
})

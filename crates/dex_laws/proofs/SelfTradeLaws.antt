-- laws of the three self-trade rules, over a whole meeting
use Rattle.std.proofs.Common.{ap, [], ℕ, ◌+◌, ◌-◌, ◌≤◌, ◌<◌, ◌≡◌, ◌≢◌, ⊎_elim, true, false, List, Option, refl, ◌∙◌, arith}
use Rattle.std.specs.List.{All}
use Rattle.std.proofs.lemmas.Bool.{cases_Bool}
use Rattle.std.proofs.lemmas.List.Elements.{All-nil, All-append}
use Rattle.dex_types.specs.declared.addresses.Address.{Address}
use Rattle.dex_types.specs.declared.orders.Order.{Order}
use Rattle.dex_types.specs.declared.terms.SelfTrade.{SelfTrade}
use Rattle.dex_types.specs.declared.terms.SelfTrade.TheVariants.{Decrement, CancelProvide, Abort}
use Rattle.dex_types.specs.declared.terms.Side.{Side}
use Rattle.dex_types.specs.declared.terms.Side.TheVariants.{Bid, Ask}
use Rattle.dex_types.specs.Meeting.{TakerTerms, Demand, is_own, less, maker_fill, met_events, met_lots, own_taken, demand_after_own, demand_after, meet}
use Rattle.dex_types.specs.QueuedEvent.{QueuedEvent}
use Rattle.dex_types.specs.Side.{price_of, opposite, lock}
use Rattle.dex_laws.specs.Fills.{LeavesNothingAs}
use Rattle.dex_laws.specs.Moved.{own_lots, other_lots}
use Rattle.dex_types.specs.Totals.{total}
use Rattle.dex_laws.proofs.BestFirstLaws.{All-met_events}
use Rattle.dex_laws.proofs.EndLaws.{is_own-less}
use Rattle.dex_laws.proofs.LockLaws.{lock-none}
use Rattle.dex_laws.proofs.MeetLaws.{meet-induction}
use Rattle.dex_laws.proofs.Taken.{Takes}
use Rattle.dex_laws.proofs.DemandLaws.{filled-wanted}

-- of one order of another trader: what it loses fills
other-part : (t : TakerTerms) (order : Order) (lots : ℕ) → lots ≤ order.lots → other_lots t.owner order ≡ other_lots t.owner (less order lots) + met_lots t order lots
other-part t order lots within =
    rw (is_own-less t.owner order lots)
    (⊎_elim (λ (own : is_own t.owner order ≡ true). rw own refl) (λ (other : is_own t.owner order ≡ false). rw other (omega arith)) (cases_Bool (is_own t.owner order)))

other-whole : (t : TakerTerms) (order : Order) → other_lots t.owner order ≡ met_lots t order order.lots
other-whole t order =
    ⊎_elim (λ (own : is_own t.owner order ≡ true). rw own refl) (λ (other : is_own t.owner order ≡ false). rw other refl) (cases_Bool (is_own t.owner order))

-- the lots that fill are those that other traders' orders lose
pub meet-other_lots : (side : Side) (t : TakerTerms) (w : Demand) (orders : List Order)
    → total (other_lots t.owner) orders ≡ total (other_lots t.owner) (meet side t w orders).left + (meet side t w orders).lots
meet-other_lots side t = meet-induction side t (λ w orders met. total (other_lots t.owner) orders ≡ total (other_lots t.owner) met.left + met.lots) (record {
  ended = λ w orders none. omega arith;
  part = λ w order others lots takes part. omega (arith, other-part t order lots takes.within);
  whole = λ w order others lots rest takes whole held. rw whole (omega (arith, other-whole t order, held));
})

-- of one own order under decrement: what it loses, the taker loses too
decrement-own : (rule : SelfTrade) (w : Demand) (order : Order) (lots : ℕ) → rule ≡ Decrement → lots ≡ own_taken rule w order
    → (demand_after_own rule w lots).lots + order.lots ≡ w.lots + (order.lots - lots)
decrement-own Decrement w order lots is taken = omega arith
decrement-own CancelProvide w order lots is taken = absurd (cc)
decrement-own Abort w order lots is taken = absurd (cc)

decrement-part : (side : Side) (t : TakerTerms) (w : Demand) (order : Order) (lots : ℕ) → Takes side t w order lots → t.self_trade ≡ Decrement
    → met_lots t order lots + (demand_after side t w order lots).lots + own_lots t.owner order ≡ w.lots + own_lots t.owner (less order lots)
unfolding demand_after
decrement-part side t w order lots takes rule =
    rw (is_own-less t.owner order lots)
    (⊎_elim (λ (own : is_own t.owner order ≡ true). rw own (omega (arith, decrement-own t.self_trade w order lots rule (takes.of_own own))))
    (λ (other : is_own t.owner order ≡ false). rw other (omega (arith, takes.of_other other, filled-wanted side w order)))
    (cases_Bool (is_own t.owner order)))

own_lots-none : (t : TakerTerms) (order : Order) → own_lots t.owner (less order order.lots) ≡ 0
own_lots-none t order =
    rw (is_own-less t.owner order order.lots)
    (⊎_elim (λ (own : is_own t.owner order ≡ true). rw own (omega arith)) (λ (other : is_own t.owner order ≡ false). rw other refl) (cases_Bool (is_own t.owner order)))

-- decrementing takes as many lots from the taker as from its own orders
pub meet-decrement : (side : Side) (t : TakerTerms) → t.self_trade ≡ Decrement → (w : Demand) (orders : List Order)
    → (meet side t w orders).lots + (meet side t w orders).demand.lots + total (own_lots t.owner) orders ≡ w.lots + total (own_lots t.owner) (meet side t w orders).left
meet-decrement side t rule =
    meet-induction side t (λ w orders met. met.lots + met.demand.lots + total (own_lots t.owner) orders ≡ w.lots + total (own_lots t.owner) met.left) (record {
      ended = λ w orders none. omega arith;
      part = λ w order others lots takes part. omega (arith, decrement-part side t w order lots takes rule);
      whole = λ w order others lots rest takes whole held.
          let gone : own_lots t.owner (less order lots) ≡ 0 = rw whole (own_lots-none t order) in
          omega (arith, decrement-part side t w order lots takes rule, gone, held);
    })

-- under the other two rules own orders take nothing from the taker
keeps-own : (rule : SelfTrade) (w : Demand) (order : Order) (lots : ℕ) → rule ≢ Decrement → lots ≡ own_taken rule w order → 0 < lots
    → (demand_after_own rule w lots).lots ≡ w.lots
keeps-own Decrement w order lots is_not taken some = absurd (is_not refl)
keeps-own CancelProvide w order lots is_not taken some = refl
keeps-own Abort w order lots is_not taken some = absurd (omega arith)

keeps-step : (side : Side) (t : TakerTerms) (w : Demand) (order : Order) (lots : ℕ) → Takes side t w order lots → t.self_trade ≢ Decrement
    → met_lots t order lots + (demand_after side t w order lots).lots ≡ w.lots
unfolding demand_after
keeps-step side t w order lots takes rule =
    ⊎_elim (λ (own : is_own t.owner order ≡ true). rw own (omega (arith, keeps-own t.self_trade w order lots rule (takes.of_own own) takes.some)))
    (λ (other : is_own t.owner order ≡ false). rw other (omega (arith, takes.of_other other, filled-wanted side w order)))
    (cases_Bool (is_own t.owner order))

-- so what fills and what is still wanted is what was wanted
pub meet-keeps_lots : (side : Side) (t : TakerTerms) → t.self_trade ≢ Decrement → (w : Demand) (orders : List Order)
    → (meet side t w orders).lots + (meet side t w orders).demand.lots ≡ w.lots
meet-keeps_lots side t rule = meet-induction side t (λ w orders met. met.lots + met.demand.lots ≡ w.lots) (record {
  ended = λ w orders none. omega arith;
  part = λ w order others lots takes part. omega (arith, keeps-step side t w order lots takes rule);
  whole = λ w order others lots rest takes whole held. omega (arith, keeps-step side t w order lots takes rule);
})

-- under abort no lots are taken of an own order
abort-own : (rule : SelfTrade) (w : Demand) (order : Order) (lots : ℕ) → rule ≡ Abort → lots ≡ own_taken rule w order → lots ≡ 0
abort-own Decrement w order lots is taken = absurd (cc)
abort-own CancelProvide w order lots is taken = absurd (cc)
abort-own Abort w order lots is taken = taken

abort-other : (side : Side) (t : TakerTerms) (w : Demand) (order : Order) (lots : ℕ) → Takes side t w order lots → t.self_trade ≡ Abort → is_own t.owner order ≡ false
abort-other side t w order lots takes rule =
    ⊎_elim (λ (own : is_own t.owner order ≡ true). absurd (omega (arith, takes.some, abort-own t.self_trade w order lots rule (takes.of_own own))))
    (λ (other : is_own t.owner order ≡ false). other) (cases_Bool (is_own t.owner order))

own_lots-other : (owner : Option Address) (order : Order) → is_own owner order ≡ false → own_lots owner order ≡ 0
own_lots-other owner order other = rw other refl

-- so own orders have all their lots after a meeting
pub meet-abort : (side : Side) (t : TakerTerms) → t.self_trade ≡ Abort → (w : Demand) (orders : List Order)
    → total (own_lots t.owner) (meet side t w orders).left ≡ total (own_lots t.owner) orders
meet-abort side t rule = meet-induction side t (λ w orders met. total (own_lots t.owner) met.left ≡ total (own_lots t.owner) orders) (record {
  ended = λ w orders none. refl;
  part = λ w order others lots takes part.
      let other : is_own t.owner order ≡ false = abort-other side t w order lots takes rule in
      omega (arith, own_lots-other t.owner order other, own_lots-other t.owner (less order lots) (is_own-less t.owner order lots ∙ other));
  whole = λ w order others lots rest takes whole held.
      omega (arith, own_lots-other t.owner order (abort-other side t w order lots takes rule));
})

-- under cancel provide the best order left is none of which a part was cancelled: own orders leave as a whole
cancel-own : (rule : SelfTrade) (w : Demand) (order : Order) (lots : ℕ) → rule ≡ CancelProvide → lots ≡ own_taken rule w order → lots ≡ order.lots
cancel-own Decrement w order lots is taken = absurd (cc)
cancel-own CancelProvide w order lots is taken = taken
cancel-own Abort w order lots is taken = absurd (cc)

-- where lots are taken of an own order, they are all of them
pub cancel-whole : (side : Side) (t : TakerTerms) (w : Demand) (order : Order) (lots : ℕ) → Takes side t w order lots → t.self_trade ≡ CancelProvide
    → is_own t.owner order ≡ true → lots ≡ order.lots
cancel-whole side t w order lots takes rule own = cancel-own t.self_trade w order lots rule (takes.of_own own)

leaves-nothing-fill : (maker : Side) (t : TakerTerms) (order : Order) (lots : ℕ) → LeavesNothingAs (maker_fill maker t order lots).kind (maker_fill maker t order lots)
leaves-nothing-fill Bid t order lots = tt
leaves-nothing-fill Ask t order lots = tt

leaves-nothing : (side : Side) (t : TakerTerms) (w : Demand) (order : Order) (lots : ℕ) → Takes side t w order lots → t.self_trade ≡ CancelProvide
    → All (λ (e : QueuedEvent). LeavesNothingAs e.kind e) (met_events side t order lots)
leaves-nothing side t w order lots takes rule =
    All-met_events (λ (e : QueuedEvent). LeavesNothingAs e.kind e) side t order lots
    (λ own.
    let nothing : order.lots - lots ≡ 0 = omega (arith, cancel-whole side t w order lots takes rule own) in
    ap (lock (opposite side) t.sizes (price_of order.id)) nothing ∙ lock-none (opposite side) t.sizes (price_of order.id))
    (λ other. (leaves-nothing-fill (opposite side) t order lots, tt))

-- so no release leaves anything locked
pub meet-cancel : (side : Side) (t : TakerTerms) → t.self_trade ≡ CancelProvide → (w : Demand) (orders : List Order)
    → All (λ (e : QueuedEvent). LeavesNothingAs e.kind e) (meet side t w orders).events
meet-cancel side t rule =
    let P : QueuedEvent → Type 0 = λ e. LeavesNothingAs e.kind e in
    meet-induction side t (λ w orders met. All P met.events) (record {
      ended = λ w orders none. All-nil P;
      part = λ w order others lots takes part. All-append P (met_events side t order lots) [] (leaves-nothing side t w order lots takes rule) (All-nil P);
      whole = λ w order others lots rest takes whole held. All-append P (met_events side t order lots) rest.events (leaves-nothing side t w order lots takes rule) held;
    })

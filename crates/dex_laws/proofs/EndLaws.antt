-- laws of the end of a meeting: it is over, and it is the recursion that meets the rest of an order again
use Rattle.std.proofs.Common.{ℕ, zero, suc, ◌-◌, ◌*◌, ◌/◌, ◌%◌, ◌≤◌, ◌<◌, ◌≡◌, ⊎_elim, true, false, cond, ltb, min, List, ◌∷◌, Option, Some, None, refl, sym, ap, ◌∙◌, inl, inr, arith}
use Rattle.std.proofs.Math.Nat.{min-le_right, div-zero, div-eq_of_lt, mod-eq-sub-div-mul, mod-lt}
use Rattle.std.proofs.lemmas.Bool.{cases_Bool, cases_lt, cond-true, cond-false, lt-ltb, le-ltb}
use Rattle.dex_types.specs.declared.addresses.Address.{Address}
use Rattle.dex_types.specs.declared.orders.Order.{Order}
use Rattle.dex_types.specs.declared.terms.SelfTrade.{SelfTrade}
use Rattle.dex_types.specs.declared.terms.SelfTrade.TheVariants.{Decrement, CancelProvide, Abort}
use Rattle.dex_types.specs.declared.terms.Side.{Side}
use Rattle.dex_types.specs.declared.terms.Side.TheVariants.{Bid, Ask}
use Rattle.dex_types.specs.Meeting.{TakerTerms, Demand, is_own, reaches, own_taken, taken, budget_after, demand_after_own, demand_after, less, met_none, met_first, aborts_at, meet}
use Rattle.dex_types.specs.Side.{price_of}
use Rattle.dex_laws.proofs.MeetLaws.{TakesNone, meet-induction, meet-ended, meet-part, meet-whole}
use Rattle.dex_laws.proofs.Taken.{Takes, Takes-taken, reaches-parts, taken-other, taken-unreached}

-- fewer lots do not change whose order it is
pub is_own-less : (owner : Option Address) (order : Order) (lots : ℕ) → is_own owner (less order lots) ≡ is_own owner order
is_own-less None order lots = refl
is_own-less (Some owner) order lots = refl

-- a taker that wants no lots takes none
pub taken-satisfied : (side : Side) (t : TakerTerms) (w : Demand) (order : Order) → w.lots ≡ 0 → taken side t w order ≡ 0
taken-satisfied side t w order satisfied =
    ⊎_elim (λ (reached : reaches side t w order ≡ true). absurd (omega (arith, (reaches-parts side t w order reached).1)))
    (λ (unreached : reaches side t w order ≡ false). taken-unreached side t w order unreached)
    (cases_Bool (reaches side t w order))

-- a bid whose budget pays no lot of another trader's order takes none
pub taken-unpaid : (t : TakerTerms) (w : Demand) (order : Order) → is_own t.owner order ≡ false → w.budget / price_of order.id ≡ 0 → taken Bid t w order ≡ 0
taken-unpaid t w order other unpaid =
    ⊎_elim (λ (reached : reaches Bid t w order ≡ true).
    omega (arith, taken-other Bid t w order reached other, min-le_right (min order.lots w.lots) (w.budget / price_of order.id)))
    (λ (unreached : reaches Bid t w order ≡ false). taken-unreached Bid t w order unreached)
    (cases_Bool (reaches Bid t w order))

-- an own order of which a part was taken used up what the taker wanted
own-part : (rule : SelfTrade) (w : Demand) (order : Order) (lots : ℕ) → 0 < lots → lots < order.lots → lots ≡ own_taken rule w order → (demand_after_own rule w lots).lots ≡ 0
own-part Decrement w order lots some part is = omega arith
own-part CancelProvide w order lots some part is = absurd (omega arith)
own-part Abort w order lots some part is = absurd (omega arith)

-- a budget that was spent as far as it goes pays no more
spent-budget : (price lots budget : ℕ) → 0 < lots → lots ≡ budget / price → (budget - lots * price) / price ≡ 0
spent-budget zero lots budget some is = absurd (omega (arith, div-zero budget))
spent-budget (suc price) lots budget some is =
    let rest : budget - lots * suc price ≡ budget % suc price = rw is (sym (mod-eq-sub-div-mul budget (suc price))) in
    rw rest (div-eq_of_lt (mod-lt budget (omega arith)))

-- after a part of an order was taken, nothing more of it is taken: the taker wants no more lots, or can pay none
part-own : (side : Side) (t : TakerTerms) (w : Demand) (order : Order) (lots : ℕ) → Takes side t w order lots → lots < order.lots → is_own t.owner order ≡ true
    → (demand_after side t w order lots).lots ≡ 0
unfolding demand_after
part-own side t w order lots takes part own = rw own (own-part t.self_trade w order lots takes.some part (takes.of_own own))

demand_after-other : (side : Side) (t : TakerTerms) (w : Demand) (order : Order) (lots : ℕ) → is_own t.owner order ≡ false
    → demand_after side t w order lots ≡ record { lots = w.lots - lots; budget = budget_after side w order lots; matches = w.matches - 1 }
unfolding demand_after
demand_after-other side t w order lots other = cond-false _ _ _ other

part-other : (side : Side) (t : TakerTerms) (w : Demand) (order : Order) (lots : ℕ) → Takes side t w order lots → lots < order.lots → is_own t.owner order ≡ false
    → taken side t (demand_after side t w order lots) (less order lots) ≡ 0
part-other Ask t w order lots takes part other =
    let after = demand_after-other Ask t w order lots other in
    taken-satisfied Ask t (demand_after Ask t w order lots) (less order lots) (ap (λ (v : Demand). v.lots) after ∙ omega (arith, takes.of_other other))
part-other Bid t w order lots takes part other =
    let after = demand_after-other Bid t w order lots other in
    let other_still : is_own t.owner (less order lots) ≡ false = is_own-less t.owner order lots ∙ other in
    ⊎_elim
    (λ (wanted : w.lots ≤ lots).
    taken-satisfied Bid t (demand_after Bid t w order lots) (less order lots) (ap (λ (v : Demand). v.lots) after ∙ omega arith))
    (λ (more : lots < w.lots).
    let paid : lots ≡ w.budget / price_of order.id = omega (arith, takes.of_other other) in
    taken-unpaid t (demand_after Bid t w order lots) (less order lots) other_still
    (ap (λ (v : Demand). v.budget / price_of order.id) after ∙ spent-budget (price_of order.id) lots w.budget takes.some paid))
    (⊎_elim (λ (more : lots < w.lots). inr more) (λ (wanted : w.lots ≤ lots). inl wanted) (cases_lt lots w.lots))

-- whoever's order it is, what is left of it after a part was taken stays
pub taken-part : (side : Side) (t : TakerTerms) (w : Demand) (order : Order) (lots : ℕ) → Takes side t w order lots → lots < order.lots
    → taken side t (demand_after side t w order lots) (less order lots) ≡ 0
taken-part side t w order lots takes part =
    ⊎_elim (λ (own : is_own t.owner order ≡ true).
    taken-satisfied side t (demand_after side t w order lots) (less order lots) (part-own side t w order lots takes part own))
    (part-other side t w order lots takes part)
    (cases_Bool (is_own t.owner order))

-- at the end of a meeting nothing more is taken of the best order left
pub meet-over : (side : Side) (t : TakerTerms) (w : Demand) (orders : List Order) → TakesNone side t (meet side t w orders).demand (meet side t w orders).left
meet-over side t = meet-induction side t (λ w orders met. TakesNone side t met.demand met.left) (record {
  ended = λ w orders none. none;
  part = λ w order others lots takes part. taken-part side t w order lots takes part;
  whole = λ w order others lots rest takes whole held. held;
})

-- so meeting what is left again, with what is still wanted, does nothing
pub meet-again : (side : Side) (t : TakerTerms) (w : Demand) (orders : List Order)
    → meet side t (meet side t w orders).demand (meet side t w orders).left ≡ met_none side t (meet side t w orders).demand (meet side t w orders).left
meet-again side t w orders = meet-ended side t (meet side t w orders).demand (meet side t w orders).left (meet-over side t w orders)

-- the side after the best order lost some of its lots: it leaves where it lost all
abbrev pub without : Order → ℕ → List Order → List Order
without order lots others = cond (ltb lots order.lots) (less order lots ∷ others) others

-- meeting is the recursion in which an order loses what is taken of it, and the taker goes on with what is left of the
-- side
pub meet-recursion : (side : Side) (t : TakerTerms) (w : Demand) (order : Order) (others : List Order) → 0 < taken side t w order
    → meet side t w (order ∷ others)
    ≡ met_first side t order (taken side t w order)
    (meet side t (demand_after side t w order (taken side t w order)) (without order (taken side t w order) others))
meet-recursion side t w order others some =
    let lots : ℕ = taken side t w order in
    ⊎_elim
    (λ (part : lots < order.lots).
    let again : meet side t (demand_after side t w order lots) (less order lots ∷ others) ≡ met_none side t (demand_after side t w order lots) (less order lots ∷ others) =
    meet-ended side t (demand_after side t w order lots) (less order lots ∷ others) (taken-part side t w order lots (Takes-taken side t w order some) part) in
    let stays : without order lots others ≡ less order lots ∷ others = cond-true _ _ _ (lt-ltb lots order.lots part) in
    meet-part side t w order others some part
    ∙ ap (met_first side t order lots) (sym again)
    ∙ ap (λ side_left. met_first side t order lots (meet side t (demand_after side t w order lots) side_left)) (sym stays))
    (λ (whole : order.lots ≤ lots).
    let leaves : without order lots others ≡ others = cond-false _ _ _ (le-ltb lots order.lots whole) in
    meet-whole side t w order others some whole
    ∙ ap (λ side_left. met_first side t order lots (meet side t (demand_after side t w order lots) side_left)) (sym leaves))
    (cases_lt lots order.lots)

-- an abort is told by what is left
pub meet-aborts : (side : Side) (t : TakerTerms) (w : Demand) (orders : List Order)
    → (meet side t w orders).aborts ≡ aborts_at side t (meet side t w orders).demand (meet side t w orders).left
meet-aborts side t = meet-induction side t (λ w orders met. met.aborts ≡ aborts_at side t met.demand met.left) (record {
  ended = λ w orders none. refl;
  part = λ w order others lots takes part. refl;
  whole = λ w order others lots rest takes whole held. held;
})

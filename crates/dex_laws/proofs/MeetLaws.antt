-- meeting by cases, and the induction by which its laws are proved
use Rattle.std.proofs.Common.{ℕ, ◌≤◌, ◌<◌, ◌≡◌, ⊎_elim, List, [], ◌∷◌, refl, sym, ◌∙◌, subst, arith}
use Rattle.std.proofs.lemmas.Bool.{cases_lt, cond-true, cond-false, eq-eqb, ne_eqb, lt-ltb, le-ltb}
use Rattle.dex_types.specs.declared.orders.Order.{Order}
use Rattle.dex_types.specs.declared.terms.Side.{Side}
use Rattle.dex_types.specs.Meeting.{TakerTerms, Demand, Meeting, taken, demand_after, less, met_none, met_first, meet}
use Rattle.dex_laws.proofs.Taken.{Takes, Takes-taken, taken-le}

-- nothing is taken of the best order, if there is one
abbrev pub TakesNone : Side → TakerTerms → Demand → List Order → Type 0
TakesNone side t w [] = Unit {0}
TakesNone side t w (order ∷ others) = taken side t w order ≡ 0

-- a meeting of which nothing is taken is over
pub meet-ended : (side : Side) (t : TakerTerms) (w : Demand) (orders : List Order) → TakesNone side t w orders → meet side t w orders ≡ met_none side t w orders
meet-ended side t w [] none = refl
meet-ended side t w (order ∷ others) none = cond-true _ _ _ (eq-eqb _ _ none)

-- a meeting that takes a part of the best order ends with it
pub meet-part : (side : Side) (t : TakerTerms) (w : Demand) (order : Order) (others : List Order) → 0 < taken side t w order → taken side t w order < order.lots
    → meet side t w (order ∷ others)
    ≡ met_first side t order (taken side t w order)
    (met_none side t (demand_after side t w order (taken side t w order)) (less order (taken side t w order) ∷ others))
meet-part side t w order others some part =
    cond-false _ _ _ (ne_eqb (taken side t w order) 0 (λ none. omega arith)) ∙ cond-true _ _ _ (lt-ltb _ _ part)

-- a meeting that takes all of the best order goes on with the others
pub meet-whole : (side : Side) (t : TakerTerms) (w : Demand) (order : Order) (others : List Order) → 0 < taken side t w order → order.lots ≤ taken side t w order
    → meet side t w (order ∷ others)
    ≡ met_first side t order (taken side t w order) (meet side t (demand_after side t w order (taken side t w order)) others)
meet-whole side t w order others some whole =
    cond-false _ _ _ (ne_eqb (taken side t w order) 0 (λ none. omega arith)) ∙ cond-false _ _ _ (le-ltb _ _ whole)

-- the cases of a meeting: it is over; it ends with a part of an order; an order is met as a whole, and the others are
-- met
pub record MeetCases (side : Side) (t : TakerTerms) (P : Demand → List Order → Meeting → Type 0) : Type 0 where
  pub ended : (w : Demand) (orders : List Order) → TakesNone side t w orders → P w orders (met_none side t w orders)
  pub part : (w : Demand) (order : Order) (others : List Order) (lots : ℕ) → Takes side t w order lots → lots < order.lots
      → P w (order ∷ others) (met_first side t order lots (met_none side t (demand_after side t w order lots) (less order lots ∷ others)))
  pub whole : (w : Demand) (order : Order) (others : List Order) (lots : ℕ) (rest : Meeting) → Takes side t w order lots → lots ≡ order.lots
      → P (demand_after side t w order lots) others rest → P w (order ∷ others) (met_first side t order lots rest)

-- what holds in each case holds of every meeting
pub meet-induction : (side : Side) (t : TakerTerms) (P : Demand → List Order → Meeting → Type 0) → MeetCases side t P
    → (w : Demand) (orders : List Order) → P w orders (meet side t w orders)
meet-induction side t P cases w [] = cases.ended w [] tt
meet-induction side t P cases w (order ∷ others) =
    let lots : ℕ = taken side t w order in
    ⊎_elim
    (λ (none : lots < 1).
    let over : lots ≡ 0 = omega arith in
    subst (P w (order ∷ others)) (sym (meet-ended side t w (order ∷ others) over)) (cases.ended w (order ∷ others) over))
    (λ (some : 1 ≤ lots). ⊎_elim
    (λ (part : lots < order.lots).
    subst (P w (order ∷ others)) (sym (meet-part side t w order others some part)) (cases.part w order others lots (Takes-taken side t w order some) part))
    (λ (whole : order.lots ≤ lots).
    subst (P w (order ∷ others)) (sym (meet-whole side t w order others some whole))
    (cases.whole w order others lots _ (Takes-taken side t w order some) (omega (arith, taken-le side t w order))
    (meet-induction side t P cases (demand_after side t w order lots) others)))
    (cases_lt lots order.lots))
    (cases_lt lots 1)

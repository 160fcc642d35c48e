-- why a meeting is over, and what an abort tells
use Rattle.std.proofs.Common.{ℕ, ◌/◌, ◌≤◌, ◌<◌, ◌≡◌, ⊎_elim, Bool, true, false, not, ◌&&◌, ltb, List, ◌∷◌, Some, None, refl, sym, ap, ◌∙◌, subst, arith}
use Rattle.std.specs.List.{All}
use Rattle.std.proofs.lemmas.Nat.{le-div}
use Rattle.std.proofs.lemmas.Bool.{cases_Bool, cases_lt, cond-true, cond-false, and_cases, and_parts, not-false, ltb-false, false≢true}
use Rattle.std.proofs.lemmas.List.Elements.{All-head}
use Rattle.dex_types.specs.declared.orders.Order.{Order}
use Rattle.dex_types.specs.declared.terms.SelfTrade.{SelfTrade}
use Rattle.dex_types.specs.declared.terms.SelfTrade.TheVariants.{Decrement, CancelProvide, Abort}
use Rattle.dex_types.specs.declared.terms.Side.{Side}
use Rattle.dex_types.specs.declared.terms.Side.TheVariants.{Bid, Ask}
use Rattle.dex_types.specs.Meeting.{TakerTerms, Demand, is_own, is_post_only, is_abort, reaches, own_taken, filled, taken, aborts_at, meet}
use Rattle.dex_types.specs.Side.{price_of, crosses}
use Rattle.dex_laws.specs.Stops.{StopsAt, Satisfied, OutOfMatches, DoesNotCross, MeetsNone, HasToAbort, CannotPay, AbortsAt}
use Rattle.dex_laws.proofs.EndLaws.{meet-over, meet-aborts}
use Rattle.dex_laws.proofs.LeftLaws.{meet-left, All-left}
use Rattle.dex_laws.proofs.MeetLaws.{TakesNone}
use Rattle.dex_laws.proofs.Taken.{taken-own, taken-other, reaches-parts}

-- an order that is not reached stops the taker for one of four reasons
stops-unreached : (side : Side) (t : TakerTerms) (w : Demand) (order : Order) → reaches side t w order ≡ false → StopsAt side t w order
stops-unreached side t w order unreached =
    let crossing : Bool = crosses side t.limit_price (price_of order.id) in
    ⊎_elim
    (λ (three : (ltb 0 w.matches && ltb 0 w.lots && crossing) ≡ false). ⊎_elim
    (λ (two : (ltb 0 w.matches && ltb 0 w.lots) ≡ false). ⊎_elim
    (λ (none : ltb 0 w.matches ≡ false). OutOfMatches (omega (arith, ltb-false 0 w.matches none)))
    (λ (none : ltb 0 w.lots ≡ false). Satisfied (omega (arith, ltb-false 0 w.lots none)))
    (and_cases (ltb 0 w.matches) (ltb 0 w.lots) two))
    (λ (away : crossing ≡ false). DoesNotCross away)
    (and_cases (ltb 0 w.matches && ltb 0 w.lots) crossing three))
    (λ (post : not (is_post_only t.order_type) ≡ false). MeetsNone (not-false (is_post_only t.order_type) post))
    (and_cases (ltb 0 w.matches && ltb 0 w.lots && crossing) (not (is_post_only t.order_type)) unreached)

-- of an own order with lots nothing is taken under one rule alone
own-none : (rule : SelfTrade) (w : Demand) (order : Order) → 0 < w.lots → 0 < order.lots → own_taken rule w order ≡ 0 → rule ≡ Abort
own-none Decrement w order wants some none = absurd (omega arith)
own-none CancelProvide w order wants some none = absurd (omega arith)
own-none Abort w order wants some none = refl

-- a bid that fills nothing of an order cannot pay one lot of it; an ask fills something
filled-none : (side : Side) (t : TakerTerms) (w : Demand) (order : Order) → 0 < w.lots → 0 < order.lots → filled side w order ≡ 0 → 0 < price_of order.id → StopsAt side t w order
filled-none Ask t w order wants some none priced = absurd (omega arith)
filled-none Bid t w order wants some none priced =
    CannotPay refl
    (⊎_elim (λ (less : w.budget < price_of order.id). less)
    (λ (enough : price_of order.id ≤ w.budget).
    let one : 1 ≤ w.budget / price_of order.id = le-div 1 w.budget (price_of order.id) priced (omega arith) in absurd (omega arith))
    (cases_lt w.budget (price_of order.id)))

stops-reached : (side : Side) (t : TakerTerms) (w : Demand) (order : Order) → 0 < order.lots → 0 < price_of order.id → taken side t w order ≡ 0 → reaches side t w order ≡ true
    → StopsAt side t w order
stops-reached side t w order some priced none reached =
    let wants : 0 < w.lots = (reaches-parts side t w order reached).1 in
    ⊎_elim
    (λ (own : is_own t.owner order ≡ true). HasToAbort own (own-none t.self_trade w order wants some (sym (taken-own side t w order reached own) ∙ none)))
    (λ (other : is_own t.owner order ≡ false). filled-none side t w order wants some (sym (taken-other side t w order reached other) ∙ none) priced)
    (cases_Bool (is_own t.owner order))

-- where nothing is taken of an order with a price and with lots, the taker has a reason to go no further
pub stops-taken : (side : Side) (t : TakerTerms) (w : Demand) (order : Order) → 0 < order.lots → 0 < price_of order.id → taken side t w order ≡ 0 → StopsAt side t w order
stops-taken side t w order some priced none =
    ⊎_elim (stops-reached side t w order some priced none) (stops-unreached side t w order) (cases_Bool (reaches side t w order))

-- an order that rests has lots and a price
abbrev pub IsRestable : Order → Type 0
IsRestable order = (0 < order.lots) × (0 < price_of order.id)

-- at the end of a meeting the taker has such a reason at the best order left
pub meet-stops : (side : Side) (t : TakerTerms) (w : Demand) (orders : List Order) → All IsRestable orders
    → (order : Order) (others : List Order) → (meet side t w orders).left ≡ order ∷ others → StopsAt side t (meet side t w orders).demand order
meet-stops side t w orders sound order others left =
    let over : taken side t (meet side t w orders).demand order ≡ 0 = subst (TakesNone side t (meet side t w orders).demand) left (meet-over side t w orders) in
    let sound_left : All IsRestable (meet side t w orders).left =
    All-left IsRestable (λ o lots some_go some_stay is. (omega arith, is.1)) (meet side t w orders).left orders (meet-left side t w orders) sound in
    let restable : IsRestable order = All-head IsRestable order others (subst (All IsRestable) left sound_left) in
    stops-taken side t (meet side t w orders).demand order restable.0 restable.1 over

is_abort-true : (rule : SelfTrade) → is_abort rule ≡ true → rule ≡ Abort
is_abort-true Decrement is = absurd (false≢true is)
is_abort-true CancelProvide is = absurd (false≢true is)
is_abort-true Abort is = refl

aborts-tell : (side : Side) (t : TakerTerms) (w : Demand) (order : Order) (others : List Order) (id : ℕ) → aborts_at side t w (order ∷ others) ≡ Some id → AbortsAt side t w order id
aborts-tell side t w order others id aborts =
    ⊎_elim
    (λ (all : (reaches side t w order && is_own t.owner order && is_abort t.self_trade) ≡ true).
    let both = and_parts (reaches side t w order && is_own t.owner order) (is_abort t.self_trade) all in
    let first = and_parts (reaches side t w order) (is_own t.owner order) both.0 in
    let parts = reaches-parts side t w order first.0 in
    let told : aborts_at side t w (order ∷ others) ≡ Some order.id = cond-true _ _ _ all in
    record {
      is = cc;
      own = first.1;
      rule = is_abort-true t.self_trade both.1;
      wants = parts.1;
      may_meet = parts.0;
      crossing = parts.2;
    })
    (λ (not_all : (reaches side t w order && is_own t.owner order && is_abort t.self_trade) ≡ false).
    let told : aborts_at side t w (order ∷ others) ≡ None = cond-false _ _ _ not_all in absurd (cc))
    (cases_Bool (reaches side t w order && is_own t.owner order && is_abort t.self_trade))

-- an abort names the best order left, which is the taker's own, and which it would have met
pub meet-AbortsAt : (side : Side) (t : TakerTerms) (w : Demand) (orders : List Order) (order : Order) (others : List Order) (id : ℕ)
    → (meet side t w orders).left ≡ order ∷ others → (meet side t w orders).aborts ≡ Some id → AbortsAt side t (meet side t w orders).demand order id
meet-AbortsAt side t w orders order others id left aborts =
    aborts-tell side t (meet side t w orders).demand order others id
    (ap (aborts_at side t (meet side t w orders).demand) (sym left) ∙ sym (meet-aborts side t w orders) ∙ aborts)

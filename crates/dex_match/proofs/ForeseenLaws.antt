-- what a new order decides, from what was foreseen of its meeting
use Rattle.std.proofs.Common.{◌≡◌, ℕ, ◌+◌, ◌-◌, ◌*◌, ◌^◌, ◌<◌, ◌≤◌, ◌∙◌, Bool, true, false, cond, eqb, List, ◌++◌, Option, Some, None, length, refl, sym, ap, ⊎_elim, arith}
use Rattle.std.proofs.lemmas.Bool.{cases_Bool, eq-eqb, ne_eqb, leb-false, le-leb, lt-leb}
use Rattle.std.proofs.lemmas.List.{length-append}
use Rattle.std.specs.Prelude.{min, nat_le}
use Rattle.dex_types.specs.declared.orders.Order.{Order}
use Rattle.dex_types.specs.declared.terms.Lots.{Lots}
use Rattle.dex_types.specs.declared.terms.Side.{Side}
use Rattle.dex_types.specs.declared.terms.Side.TheVariants.{Bid, Ask}
use Rattle.dex_types.specs.Meeting.{Meeting}
use Rattle.dex_types.specs.NewOrder.{NewOrder, Standing, demand_of, fee_of, full_lock, last_events, meeting_of, rested, taker_events, terms_of}
use Rattle.dex_types.specs.Posting.{Posting, last_of, post}
use Rattle.dex_types.specs.QueuedEvent.{QueuedEvent}
use Rattle.dex_types.specs.Owed.{leaving}
use Rattle.dex_types.specs.Reasons.{ask_too_large}
use Rattle.dex_types.specs.Side.{Token, Coin, Pc, by_side, by_token, id_of, locked_token}
use Rattle.dex_types.specs.Solvency.{all_leaving}
use Rattle.dex_types.specs.Totals.{total}
use Rattle.dex_types.specs.Trader.{Account, balance, free_slot}
use Rattle.dex_laws.proofs.PostLaws.{last_of-none, post-induction}
use Rattle.dex_laws.proofs.TotalLaws.{total-append}
use Rattle.dex_sound.proofs.FillLaws.{meet-leaving}
use Rattle.dex_sound.proofs.OrderSoundReasons.{refused_where-none}
use Rattle.dex_match.specs.declared.order_plan.OrderPlan.{OrderPlan}
use Rattle.dex_match.specs.declared.order_terms.Taker.{Taker}
use Rattle.dex_match.specs.Deciding.{ordering_at}
use Rattle.dex_match.specs.Ordering.{plan_by}
use Rattle.dex_match.specs.OrderTerms.{order_of}

-- where an ask is not too large, the lock of an order fits
pub lock-fits : (side : Side) (sizes : Lots) (n : NewOrder) → n.max_pc < 2 ^ 64 → ask_too_large side sizes n.lots ≡ None → full_lock side sizes n < 2 ^ 64
lock-fits Bid sizes n pays fits = pays
lock-fits Ask sizes n pays fits = leb-false (2 ^ 64) (n.lots * sizes.coin) (refused_where-none _ _ fits)

-- a sum of lots has the base of the lots that it is
pub base-fits : (sum lots coin : ℕ) → sum ≡ lots → lots * coin < 2 ^ 64 → sum * coin < 2 ^ 64
base-fits sum lots coin is fits = rw is fits

-- ---- the events of the order itself

abbrev one_where : Bool → ℕ
one_where test = cond test 1 0

last-some : (side : Side) (sizes : Lots) (order : Order) (orders : List Order) (last : Option Order) → last_of orders ≡ last → 1 ≤ length orders
    → length (last_events side sizes order last) ≡ 1
last-some side sizes order orders None is some = absurd (omega (arith, some, ap length (last_of-none orders is)))
last-some side sizes order orders (Some last) is some = refl

length-last : (side : Side) (sizes : Lots) (room : ℕ) (order : Order) (orders : List Order) → 1 ≤ room
    → length (last_events side sizes order (post side room order orders).booted) ≡ cond (eqb order.lots 0) 1 (one_where (nat_le room (length orders)))
length-last side sizes room order orders some_room =
    post-induction side room order orders
    (λ (posting : Posting). length (last_events side sizes order posting.booted) ≡ cond (eqb order.lots 0) 1 (one_where (nat_le room (length orders))))
    (λ none. rw (eq-eqb order.lots 0 none) refl)
    (λ some space.
    let lots : eqb order.lots 0 ≡ false = ne_eqb order.lots 0 (λ none. omega arith) in
    let free : nat_le room (length orders) ≡ false = lt-leb room (length orders) space in
    rw (lots, free) refl)
    (λ some full.
    let lots : eqb order.lots 0 ≡ false = ne_eqb order.lots 0 (λ none. omega arith) in
    let filled : nat_le room (length orders) ≡ true = le-leb room (length orders) full in
    rw (lots, filled) (last-some side sizes order orders (last_of orders) refl (omega arith)))

length-fills : (side : Side) (sizes : Lots) (n : NewOrder) (met : Meeting) (order : Order) → length (taker_events side sizes n met order) ≡ cond (eqb met.pc 0) 0 1
length-fills side sizes n met order =
    ⊎_elim (λ (none : eqb met.pc 0 ≡ true). rw none refl) (λ (some : eqb met.pc 0 ≡ false). rw some refl) (cases_Bool (eqb met.pc 0))

-- how many there are, with those of the meeting
pub length-ordering : (s : Standing) (account : Account) (taker : Taker) (events own pc lots : ℕ) (full : Bool) → 1 ≤ s.own_capacity
    → events ≡ length (meeting_of taker.id_side s (order_of taker)).events → pc ≡ (meeting_of taker.id_side s (order_of taker)).pc
    → lots ≡ rested taker.id_side s.sizes (order_of taker) (meeting_of taker.id_side s (order_of taker)) → full ≡ nat_le s.own_capacity (length s.own)
    → own ≡ cond (eqb pc 0) 0 1 + cond (eqb lots 0) 1 (one_where full)
    → events + own ≡ length (ordering_at s account taker).events
length-ordering s account taker events own pc lots full some_room met p l f counted =
    let side : Side = taker.id_side in
    let n : NewOrder = order_of taker in
    let meeting : Meeting = meeting_of side s n in
    let order : Order = (ordering_at s account taker).order in
    let fills : List QueuedEvent = taker_events side s.sizes n meeting order in
    let last : List QueuedEvent = last_events side s.sizes order (post side s.own_capacity order s.own).booted in
    let fill : length fills ≡ cond (eqb pc 0) 0 1 = length-fills side s.sizes n meeting order ∙ ap (λ k. cond (eqb k 0) 0 1) (sym p) in
    let end : length last ≡ cond (eqb lots 0) 1 (one_where full) =
    length-last side s.sizes s.own_capacity order s.own some_room ∙ ap (λ k. cond (eqb k 0) 1 (one_where (nat_le s.own_capacity (length s.own)))) (sym l) ∙ ap (λ b. cond (eqb lots 0) 1 (one_where b)) (sym f) in
    let all : length (ordering_at s account taker).events ≡ length (meeting.events ++ fills) + length last = length-append (meeting.events ++ fills) last in
    omega (arith, met, counted, fill, end, all, length-append meeting.events fills)

-- ---- the plan

pub planned : (s : Standing) (account : Account) (taker : Taker) (lock deposit needed lots pc fee rests slot id : ℕ)
    → lock ≡ full_lock taker.id_side s.sizes (order_of taker)
    → deposit ≡ lock - min (balance (locked_token taker.id_side) account).free lock
    → needed ≡ length (ordering_at s account taker).events
    → lots ≡ (meeting_of taker.id_side s (order_of taker)).lots
    → pc ≡ (meeting_of taker.id_side s (order_of taker)).pc
    → fee ≡ fee_of (order_of taker) (meeting_of taker.id_side s (order_of taker))
    → rests ≡ rested taker.id_side s.sizes (order_of taker) (meeting_of taker.id_side s (order_of taker))
    → slot ≡ free_slot account.slots
    → id ≡ id_of taker.id_side taker.price s.next_sequence
    → (let plan : OrderPlan = record { deposit = deposit; needed = needed; lots = lots; pc = pc; fee = fee; rested = rests; slot = slot; id = id } in plan)
    ≡ plan_by (order_of taker) (ordering_at s account taker)
planned s account taker lock deposit needed lots pc fee rests slot id k d ne l p f r sl i = cc

-- ---- what is to leave totals

fills-leave : (token : Token) (side : Side) (sizes : Lots) (n : NewOrder) (met : Meeting) (order : Order) → total (leaving token) (taker_events side sizes n met order) ≡ 0
fills-leave Coin side sizes n met order =
    ⊎_elim (λ (none : eqb met.pc 0 ≡ true). rw none refl) (λ (some : eqb met.pc 0 ≡ false). rw some refl) (cases_Bool (eqb met.pc 0))
fills-leave Pc side sizes n met order =
    ⊎_elim (λ (none : eqb met.pc 0 ≡ true). rw none refl) (λ (some : eqb met.pc 0 ≡ false). rw some refl) (cases_Bool (eqb met.pc 0))

last-leaves : (token : Token) (side : Side) (sizes : Lots) (order : Order) (booted : Option Order) → total (leaving token) (last_events side sizes order booted) ≡ 0
last-leaves Coin side sizes order None =
    ⊎_elim (λ (none : eqb order.lots 0 ≡ true). rw none refl) (λ (some : eqb order.lots 0 ≡ false). rw some refl) (cases_Bool (eqb order.lots 0))
last-leaves Pc side sizes order None =
    ⊎_elim (λ (none : eqb order.lots 0 ≡ true). rw none refl) (λ (some : eqb order.lots 0 ≡ false). rw some refl) (cases_Bool (eqb order.lots 0))
last-leaves Coin side sizes order (Some last) = refl
last-leaves Pc side sizes order (Some last) = refl

-- after the order: what pending fills take off totals, and its makers' fills
pub leaving-after : (token : Token) (events : List QueuedEvent) (s : Standing) (account : Account) (taker : Taker)
    → all_leaving token (events ++ (ordering_at s account taker).events)
    ≡ all_leaving token events + by_token token (by_side taker.id_side ((meeting_of taker.id_side s (order_of taker)).lots * s.sizes.coin) 0)
    (by_side taker.id_side 0 ((meeting_of taker.id_side s (order_of taker)).pc - (meeting_of taker.id_side s (order_of taker)).rebates))
leaving-after token events s account taker =
    let side : Side = taker.id_side in
    let n : NewOrder = order_of taker in
    let meeting : Meeting = meeting_of side s n in
    let order : Order = (ordering_at s account taker).order in
    let fills : List QueuedEvent = taker_events side s.sizes n meeting order in
    let last : List QueuedEvent = last_events side s.sizes order (post side s.own_capacity order s.own).booted in
    let all : all_leaving token (events ++ (ordering_at s account taker).events) ≡ total (leaving token) events + total (leaving token) (meeting.events ++ fills ++ last) =
    total-append (leaving token) events (meeting.events ++ fills ++ last) in
    omega (
      arith,
      all,
      total-append (leaving token) (meeting.events ++ fills) last,
      total-append (leaving token) meeting.events fills,
      meet-leaving side (terms_of s.sizes n) (demand_of side s.sizes n) s.opposing token,
      fills-leave token side s.sizes n meeting order,
      last-leaves token side s.sizes order (post side s.own_capacity order s.own).booted,
    )

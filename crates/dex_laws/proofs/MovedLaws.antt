-- what orders lose, the events tell: laws of weights of orders and of events
use Rattle.std.proofs.Common.{ℕ, ◌+◌, ◌-◌, ◌*◌, ◌≤◌, ◌<◌, ◌≡◌, ⊎_elim, Bool, true, false, cond, eqb, List, [], ◌∷◌, refl, sym, ap, ◌∙◌, arith}
use Rattle.std.specs.List.{All}
use Rattle.std.proofs.Math.Nat.{add-mul, mul-add}
use Rattle.std.proofs.lemmas.Bool.{cases_Bool, cond_both, eq-eqb, ne_eqb}
use Rattle.std.proofs.lemmas.List.Elements.{All-head, All-tail}
use Rattle.dex_types.specs.declared.addresses.Address.{Address}
use Rattle.dex_types.specs.declared.orders.Order.{Order}
use Rattle.dex_types.specs.declared.terms.Lots.{Lots}
use Rattle.dex_types.specs.declared.terms.Side.{Side}
use Rattle.dex_types.specs.declared.terms.Side.TheVariants.{Bid, Ask}
use Rattle.dex_types.specs.Fees.{tier_at}
use Rattle.dex_types.specs.Meeting.{TakerTerms, Demand, Meeting, is_own, less, event_of, fill_pc, fill_rebate, maker_fill, plain_out, releasing_out, met_events, met_lots, met_pc, met_rebate, met_none, met_first, meet}
use Rattle.dex_types.specs.QueuedEvent.{QueuedEvent, EventKind, MakerFill, TakerFill, PlainOut, ReleasingOut}
use Rattle.dex_types.specs.Side.{price_of, opposite, lock}
use Rattle.dex_fees.proofs.FeeLaws.{maker_rebate-le}
use Rattle.dex_types.specs.Owed.{order_lock, is_order_of, is_event_of}
use Rattle.dex_laws.specs.Locks.{locked, unlocked, unlocked_as, taken_off, taken_off_as, let_go, let_go_as}
use Rattle.dex_types.specs.Totals.{weighed_where}
use Rattle.dex_laws.specs.Moved.{filled_coin, filled_pc, filled_rebate, moved}
use Rattle.dex_types.specs.Totals.{total}
use Rattle.dex_laws.proofs.MeetLaws.{meet-induction}
use Rattle.dex_laws.proofs.TotalLaws.{total-append}

-- the events of one order, by cases
pub met_events-own : (side : Side) (t : TakerTerms) (order : Order) (lots : ℕ) → is_own t.owner order ≡ true
    → met_events side t order lots ≡ releasing_out (opposite side) t.sizes order lots ∷ []
met_events-own side t order lots own = rw own refl

-- another trader's order with lots left gives its fill
pub met_events-part : (side : Side) (t : TakerTerms) (order : Order) (lots : ℕ) → is_own t.owner order ≡ false → lots < order.lots
    → met_events side t order lots ≡ maker_fill (opposite side) t order lots ∷ []
met_events-part side t order lots other part =
    let more : eqb lots order.lots ≡ false = ne_eqb lots order.lots (λ same. omega arith) in
    rw (other, more) refl

-- another trader's order without lots left gives its fill and its out
pub met_events-whole : (side : Side) (t : TakerTerms) (order : Order) → is_own t.owner order ≡ false
    → met_events side t order order.lots ≡ maker_fill (opposite side) t order order.lots ∷ plain_out (opposite side) order ∷ []
met_events-whole side t order other =
    let all : eqb order.lots order.lots ≡ true = eq-eqb order.lots order.lots refl in
    rw (other, all) refl

-- a weight of orders and a weight of events, by which an order loses what its events tell: in part or as a whole, to
-- its own trader or to another
pub record Tells (side : Side) (t : TakerTerms) (Q : Order → Type 0) (weight : Order → ℕ) (told : QueuedEvent → ℕ) : Type 0 where
  pub own_part : (order : Order) (lots : ℕ) → Q order → 0 < lots → lots < order.lots
      → weight order ≡ weight (less order lots) + told (releasing_out (opposite side) t.sizes order lots)
  pub own_whole : (order : Order) → Q order → 0 < order.lots → weight order ≡ told (releasing_out (opposite side) t.sizes order order.lots)
  pub fill_part : (order : Order) (lots : ℕ) → Q order → 0 < lots → lots < order.lots
      → weight order ≡ weight (less order lots) + told (maker_fill (opposite side) t order lots)
  pub fill_whole : (order : Order) → Q order → 0 < order.lots
      → weight order ≡ told (maker_fill (opposite side) t order order.lots) + told (plain_out (opposite side) order)

told-part : (side : Side) (t : TakerTerms) (Q : Order → Type 0) (weight : Order → ℕ) (told : QueuedEvent → ℕ) → Tells side t Q weight told
    → (order : Order) (lots : ℕ) → Q order → 0 < lots → lots < order.lots → weight order ≡ weight (less order lots) + total told (met_events side t order lots)
told-part side t Q weight told tells order lots sound some part =
    ⊎_elim (λ (own : is_own t.owner order ≡ true). rw (met_events-own side t order lots own) (omega (arith, tells.own_part order lots sound some part)))
    (λ (other : is_own t.owner order ≡ false). rw (met_events-part side t order lots other part) (omega (arith, tells.fill_part order lots sound some part)))
    (cases_Bool (is_own t.owner order))

told-whole : (side : Side) (t : TakerTerms) (Q : Order → Type 0) (weight : Order → ℕ) (told : QueuedEvent → ℕ) → Tells side t Q weight told
    → (order : Order) → Q order → 0 < order.lots → weight order ≡ total told (met_events side t order order.lots)
told-whole side t Q weight told tells order sound some =
    ⊎_elim (λ (own : is_own t.owner order ≡ true). rw (met_events-own side t order order.lots own) (omega (arith, tells.own_whole order sound some)))
    (λ (other : is_own t.owner order ≡ false). rw (met_events-whole side t order other) (omega (arith, tells.fill_whole order sound some)))
    (cases_Bool (is_own t.owner order))

-- what stood on the side is left there or told by the events
pub meet-told : (side : Side) (t : TakerTerms) (Q : Order → Type 0) (weight : Order → ℕ) (told : QueuedEvent → ℕ) → Tells side t Q weight told
    → (w : Demand) (orders : List Order) → All Q orders
    → total weight orders ≡ total weight (meet side t w orders).left + total told (meet side t w orders).events
meet-told side t Q weight told tells =
    meet-induction side t (λ w orders met. All Q orders → total weight orders ≡ total weight met.left + total told met.events) (record {
      ended = λ w orders none sound. omega arith;
      part = λ w order others lots takes part sound.
          omega (arith, told-part side t Q weight told tells order lots (All-head Q order others sound) takes.some part, total-append told (met_events side t order lots) []);
      whole = λ w order others lots rest takes whole held sound.
          let told_here : weight order ≡ total told (met_events side t order lots) =
          rw whole (told-whole side t Q weight told tells order (All-head Q order others sound) (omega (arith, takes.some, whole))) in
          omega (arith, told_here, held (All-tail Q order others sound), total-append told (met_events side t order lots) rest.events);
    })

-- an amount of meetings is told by the events, if that of each order met is
pub meet-amount : (side : Side) (t : TakerTerms) (amount : Meeting → ℕ) (step : Order → ℕ → ℕ) (told : QueuedEvent → ℕ)
    → ((w : Demand) (left : List Order) → amount (met_none side t w left) ≡ 0)
    → ((order : Order) (lots : ℕ) (rest : Meeting) → amount (met_first side t order lots rest) ≡ step order lots + amount rest)
    → ((order : Order) (lots : ℕ) → lots ≤ order.lots → step order lots ≡ total told (met_events side t order lots))
    → (w : Demand) (orders : List Order) → amount (meet side t w orders) ≡ total told (meet side t w orders).events
meet-amount side t amount step told none first each =
    meet-induction side t (λ w orders met. amount met ≡ total told met.events) (record {
      ended = λ w orders over. none w orders;
      part = λ w order others lots takes part.
          omega (arith, none, first, each order lots takes.within, total-append told (met_events side t order lots) []);
      whole = λ w order others lots rest takes whole held.
          omega (arith, first order lots rest, each order lots takes.within, total-append told (met_events side t order lots) rest.events);
    })

-- lots at a price lock what their parts lock
pub lock-add : (side : Side) (sizes : Lots) (price lots more : ℕ) → lock side sizes price (lots + more) ≡ lock side sizes price lots + lock side sizes price more
lock-add Bid sizes price lots more = ap (λ p. p * sizes.pc) (mul-add price lots more) ∙ add-mul (price * lots) (price * more) sizes.pc
lock-add Ask sizes price lots more = add-mul lots more sizes.coin

-- what lots lock, by a part of them and the rest
pub lock-less : (side : Side) (sizes : Lots) (price lots of : ℕ) → of ≤ lots → lock side sizes price lots ≡ lock side sizes price (lots - of) + lock side sizes price of
lock-less side sizes price lots of within =
    let parts : lots - of + of ≡ lots = omega arith in
    ap (lock side sizes price) (sym parts) ∙ lock-add side sizes price (lots - of) of

-- a fill takes what its lots locked
pub unlocked-maker_fill : (side : Side) (t : TakerTerms) (order : Order) (lots : ℕ) → unlocked side (maker_fill side t order lots) ≡ lock side t.sizes (price_of order.id) lots
unlocked-maker_fill Bid t order lots =
    omega (arith, maker_rebate-le t.program (tier_at order.tier) (fill_pc t.sizes order lots))
unlocked-maker_fill Ask t order lots = refl

-- a release frees what its lots locked
pub unlocked-releasing_out : (side : Side) (sizes : Lots) (order : Order) (lots : ℕ) → unlocked side (releasing_out side sizes order lots) ≡ lock side sizes (price_of order.id) lots
unlocked-releasing_out Bid sizes order lots = refl
unlocked-releasing_out Ask sizes order lots = refl

-- a plain out frees nothing
pub unlocked-plain_out : (side : Side) (order : Order) → unlocked side (plain_out side order) ≡ 0
unlocked-plain_out Bid order = refl
unlocked-plain_out Ask order = refl

-- locks are told by what the events unlock
pub Tells-locks : (side : Side) (t : TakerTerms) → Tells side t (λ order. Unit {0}) (order_lock (opposite side) t.sizes) (unlocked (opposite side))
Tells-locks side t = record {
  own_part = λ order lots sound some part.
      rw (unlocked-releasing_out (opposite side) t.sizes order lots) (lock-less (opposite side) t.sizes (price_of order.id) order.lots lots (omega arith));
  own_whole = λ order sound some. sym (unlocked-releasing_out (opposite side) t.sizes order order.lots);
  fill_part = λ order lots sound some part.
      rw (unlocked-maker_fill (opposite side) t order lots) (lock-less (opposite side) t.sizes (price_of order.id) order.lots lots (omega arith));
  fill_whole = λ order sound some.
      omega (arith, unlocked-maker_fill (opposite side) t order order.lots, unlocked-plain_out (opposite side) order);
}

-- what stood locked is locked still, or events tell that it was taken or released
pub meet-locked : (side : Side) (t : TakerTerms) (w : Demand) (orders : List Order)
    → locked (opposite side) t.sizes orders
    ≡ locked (opposite side) t.sizes (meet side t w orders).left + total (unlocked (opposite side)) (meet side t w orders).events
meet-locked side t w orders = meet-told side t (λ order. Unit {0}) _ _ (Tells-locks side t) w orders (λ k d inside. tt)

-- parts of a whole, where a test holds
where-parts : (test : Bool) (whole rest part : ℕ) → whole ≡ rest + part → cond test whole 0 ≡ cond test rest 0 + cond test part 0
where-parts true whole rest part parts = parts
where-parts false whole rest part parts = refl

where-told : (test tested : Bool) (whole rest part : ℕ) → tested ≡ test → whole ≡ rest + part → cond test whole 0 ≡ cond test rest 0 + cond tested part 0
where-told test tested whole rest part same parts = rw same (where-parts test whole rest part parts)

where-same : (test tested : Bool) (whole part : ℕ) → tested ≡ test → whole ≡ part → cond test whole 0 ≡ cond tested part 0
where-same test tested whole part same all = rw (same, all) refl

-- an event of an order passes a test exactly where the order does
pub record IsTestOfOrder (test : Order → Bool) (tested : QueuedEvent → Bool) : Type 0 where
  pub smaller : (order : Order) (lots : ℕ) → test (less order lots) ≡ test order
  pub event : (kind : EventKind) (order : Order) (released paid rebate : ℕ) → tested (event_of kind order released paid rebate) ≡ test order

test-maker_fill : (test : Order → Bool) (tested : QueuedEvent → Bool) → IsTestOfOrder test tested → (side : Side) (t : TakerTerms) (order : Order) (lots : ℕ)
    → tested (maker_fill side t order lots) ≡ test order
test-maker_fill test tested is Bid t order lots = is.event _ order _ _ _
test-maker_fill test tested is Ask t order lots = is.event _ order _ _ _

-- what holds of all orders holds of those that pass such a test, as those of one owner or one slot
pub Tells-where : (test : Order → Bool) (tested : QueuedEvent → Bool) → IsTestOfOrder test tested
    → (side : Side) (t : TakerTerms) (Q : Order → Type 0) (weight : Order → ℕ) (told : QueuedEvent → ℕ) → Tells side t Q weight told
    → Tells side t Q (weighed_where test weight) (weighed_where tested told)
Tells-where test tested is side t Q weight told tells = record {
  own_part = λ order lots sound some part.
      rw (is.smaller order lots)
      (where-told (test order) (tested (releasing_out (opposite side) t.sizes order lots)) (weight order) (weight (less order lots)) _
      (is.event _ order _ _ _) (tells.own_part order lots sound some part));
  own_whole = λ order sound some.
      where-same (test order) (tested (releasing_out (opposite side) t.sizes order order.lots)) (weight order) (told (releasing_out (opposite side) t.sizes order order.lots))
      (is.event _ order _ _ _) (tells.own_whole order sound some);
  fill_part = λ order lots sound some part.
      rw (is.smaller order lots)
      (where-told (test order) (tested (maker_fill (opposite side) t order lots)) (weight order) (weight (less order lots)) _
      (test-maker_fill test tested is (opposite side) t order lots) (tells.fill_part order lots sound some part));
  fill_whole = λ order sound some.
      rw (test-maker_fill test tested is (opposite side) t order order.lots)
      (where-told (test order) (tested (plain_out (opposite side) order)) (weight order) (told (maker_fill (opposite side) t order order.lots)) _
      (is.event _ order _ _ _) (tells.fill_whole order sound some));
}

-- the owner is such a test
pub IsTestOfOrder-owner : (owner : Address) → IsTestOfOrder (is_order_of owner) (is_event_of owner)
IsTestOfOrder-owner owner = record { smaller = λ order lots. refl; event = λ kind order released paid rebate. refl }

-- what an owner's orders lock before a meeting is what they lock after it, with what its events keep
pub meet-locked_of : (owner : Address) (side : Side) (t : TakerTerms) (w : Demand) (orders : List Order)
    → total (weighed_where (is_order_of owner) (order_lock (opposite side) t.sizes)) orders
    ≡ total (weighed_where (is_order_of owner) (order_lock (opposite side) t.sizes)) (meet side t w orders).left
    + total (weighed_where (is_event_of owner) (unlocked (opposite side))) (meet side t w orders).events
meet-locked_of owner side t w orders =
    meet-told side t (λ order. Unit {0}) _ _ (Tells-where _ _ (IsTestOfOrder-owner owner) side t _ _ _ (Tells-locks side t)) w orders (λ k d inside. tt)

-- of one order: an amount that is nothing of an own order, and else that of its fill
fill-told : (side : Side) (t : TakerTerms) (told : QueuedEvent → ℕ) (order : Order) (lots amount : ℕ) → lots ≤ order.lots
    → told (releasing_out (opposite side) t.sizes order lots) ≡ 0 → told (maker_fill (opposite side) t order lots) ≡ amount → told (plain_out (opposite side) order) ≡ 0
    → cond (is_own t.owner order) 0 amount ≡ total told (met_events side t order lots)
fill-told side t told order lots amount within nothing filled gone =
    ⊎_elim (λ (own : is_own t.owner order ≡ true). rw own (omega arith))
    (λ (other : is_own t.owner order ≡ false). rw other
    (cond_both (eqb lots order.lots) (plain_out (opposite side) order ∷ []) [] (λ outs. amount ≡ told (maker_fill (opposite side) t order lots) + total told outs)
    (λ whole. omega arith) (λ part. omega arith)))
    (cases_Bool (is_own t.owner order))

-- the base, the quote and the rebate of a fill, whatever its side
pub coin-fill : (side : Side) (t : TakerTerms) (order : Order) (lots : ℕ) → filled_coin (maker_fill side t order lots) ≡ lots * t.sizes.coin
coin-fill Bid t order lots = refl
coin-fill Ask t order lots = refl

-- its quote, of which a bid paid the rebate's part less and an ask got it on top
pub pc-fill : (side : Side) (t : TakerTerms) (order : Order) (lots : ℕ) → filled_pc (maker_fill side t order lots) ≡ fill_pc t.sizes order lots
pc-fill Bid t order lots = omega (arith, maker_rebate-le t.program (tier_at order.tier) (fill_pc t.sizes order lots))
pc-fill Ask t order lots = omega arith

-- its rebate
pub rebate-fill : (side : Side) (t : TakerTerms) (order : Order) (lots : ℕ) → filled_rebate (maker_fill side t order lots) ≡ fill_rebate t order lots
rebate-fill Bid t order lots = refl
rebate-fill Ask t order lots = refl

met_lots-coin : (t : TakerTerms) (order : Order) (lots coin : ℕ) → met_lots t order lots * coin ≡ cond (is_own t.owner order) 0 (lots * coin)
met_lots-coin t order lots coin =
    ⊎_elim (λ (own : is_own t.owner order ≡ true). rw own (omega arith)) (λ (other : is_own t.owner order ≡ false). rw other refl) (cases_Bool (is_own t.owner order))

-- what a meeting reports is what the events tell: base, quote and rebates
pub meet-coin : (side : Side) (t : TakerTerms) (w : Demand) (orders : List Order)
    → (meet side t w orders).lots * t.sizes.coin ≡ total filled_coin (meet side t w orders).events
meet-coin side t =
    meet-amount side t (λ met. met.lots * t.sizes.coin) (λ order lots. met_lots t order lots * t.sizes.coin) filled_coin
    (λ w left. omega arith)
    (λ order lots rest. add-mul (met_lots t order lots) rest.lots t.sizes.coin)
    (λ order lots within. met_lots-coin t order lots t.sizes.coin
    ∙ fill-told side t filled_coin order lots (lots * t.sizes.coin) within refl (coin-fill (opposite side) t order lots) refl)

-- the quote that is reported is that of the fills
pub meet-pc : (side : Side) (t : TakerTerms) (w : Demand) (orders : List Order) → (meet side t w orders).pc ≡ total filled_pc (meet side t w orders).events
meet-pc side t =
    meet-amount side t (λ met. met.pc) (met_pc t) filled_pc (λ w left. refl) (λ order lots rest. refl)
    (λ order lots within. fill-told side t filled_pc order lots (fill_pc t.sizes order lots) within refl (pc-fill (opposite side) t order lots) refl)

-- and so are the rebates
pub meet-rebates_told : (side : Side) (t : TakerTerms) (w : Demand) (orders : List Order) → (meet side t w orders).rebates ≡ total filled_rebate (meet side t w orders).events
meet-rebates_told side t =
    meet-amount side t (λ met. met.rebates) (met_rebate t) filled_rebate (λ w left. refl) (λ order lots rest. refl)
    (λ order lots within. fill-told side t filled_rebate order lots (fill_rebate t order lots) within refl (rebate-fill (opposite side) t order lots) refl)

taken_off-fill : (side : Side) (t : TakerTerms) (order : Order) (lots : ℕ) → taken_off side (maker_fill side t order lots) ≡ lock side t.sizes (price_of order.id) lots
taken_off-fill Bid t order lots = omega (arith, maker_rebate-le t.program (tier_at order.tier) (fill_pc t.sizes order lots))
taken_off-fill Ask t order lots = refl

taken_off-releasing_out : (side : Side) (sizes : Lots) (order : Order) (lots : ℕ) → taken_off side (releasing_out side sizes order lots) ≡ 0
taken_off-releasing_out Bid sizes order lots = refl
taken_off-releasing_out Ask sizes order lots = refl

taken_off-plain_out : (side : Side) (order : Order) → taken_off side (plain_out side order) ≡ 0
taken_off-plain_out Bid order = refl
taken_off-plain_out Ask order = refl

-- what the fills of a meeting took off the locks
pub meet-taken_off : (side : Side) (t : TakerTerms) (w : Demand) (orders : List Order)
    → moved side t.sizes (meet side t w orders) ≡ total (taken_off (opposite side)) (meet side t w orders).events
meet-taken_off Bid t =
    meet-amount Bid t (λ met. met.lots * t.sizes.coin) (λ order lots. met_lots t order lots * t.sizes.coin) (taken_off Ask)
    (λ w left. omega arith)
    (λ order lots rest. add-mul (met_lots t order lots) rest.lots t.sizes.coin)
    (λ order lots within. met_lots-coin t order lots t.sizes.coin ∙ fill-told Bid t (taken_off Ask) order lots (lots * t.sizes.coin) within refl refl refl)
meet-taken_off Ask t =
    meet-amount Ask t (λ met. met.pc) (met_pc t) (taken_off Bid) (λ w left. refl) (λ order lots rest. refl)
    (λ order lots within. fill-told Ask t (taken_off Bid) order lots (fill_pc t.sizes order lots) within refl (taken_off-fill Bid t order lots) refl)

-- what comes off the locks is taken by a fill or released by an out
unlocked-parts : (side : Side) (kind : EventKind) (event : QueuedEvent) → unlocked_as side kind event ≡ taken_off_as side kind event + let_go_as side kind event
unlocked-parts Bid (MakerFill Bid) event = omega arith
unlocked-parts Bid (MakerFill Ask) event = refl
unlocked-parts Bid (TakerFill side) event = refl
unlocked-parts Bid (PlainOut side) event = refl
unlocked-parts Bid (ReleasingOut Bid) event = omega arith
unlocked-parts Bid (ReleasingOut Ask) event = refl
unlocked-parts Ask (MakerFill Bid) event = refl
unlocked-parts Ask (MakerFill Ask) event = omega arith
unlocked-parts Ask (TakerFill side) event = refl
unlocked-parts Ask (PlainOut side) event = refl
unlocked-parts Ask (ReleasingOut Bid) event = refl
unlocked-parts Ask (ReleasingOut Ask) event = omega arith

-- and so it is in the sum over events
pub total-unlocked : (side : Side) (events : List QueuedEvent) → total (unlocked side) events ≡ total (taken_off side) events + total (let_go side) events
total-unlocked side [] = refl
total-unlocked side (event ∷ events) = omega (arith, unlocked-parts side event.kind event, total-unlocked side events)

-- what stood locked is locked still, was moved by the fills, or was released by outs of the taker's own orders
pub meet-moved : (side : Side) (t : TakerTerms) (w : Demand) (orders : List Order)
    → locked (opposite side) t.sizes orders
    ≡ locked (opposite side) t.sizes (meet side t w orders).left + moved side t.sizes (meet side t w orders)
    + total (let_go (opposite side)) (meet side t w orders).events
meet-moved side t w orders =
    omega (arith, meet-locked side t w orders, total-unlocked (opposite side) (meet side t w orders).events, meet-taken_off side t w orders)

-- the fills move no more than was locked
pub meet-moved_le : (side : Side) (t : TakerTerms) (w : Demand) (orders : List Order)
    → moved side t.sizes (meet side t w orders) + locked (opposite side) t.sizes (meet side t w orders).left ≤ locked (opposite side) t.sizes orders
meet-moved_le side t w orders = omega (arith, meet-moved side t w orders)

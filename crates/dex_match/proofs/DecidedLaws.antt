-- what a new order is answered, from what was read and what was foreseen
use Rattle.std.proofs.Common.{◌≡◌, ℕ, ◌+◌, ◌-◌, ◌*◌, ◌∙◌, List, [], ◌∷◌, Option, Some, None, length, refl, sym, ap, subst, arith}
use Rattle.dex_types.specs.declared.refusals.Refusal.{Refusal}
use Rattle.dex_types.specs.declared.terms.Lots.{Lots}
use Rattle.dex_types.specs.declared.terms.Side.{Side}
use Rattle.dex_types.specs.Meeting.{Meeting}
use Rattle.dex_types.specs.NewOrder.{NewOrder, Ordering, Standing, meeting_of}
use Rattle.dex_types.specs.Reasons.{answered, ask_too_large, beyond, first_of, no_room, no_slot, short_by, time_past, used_up, would_self_trade}
use Rattle.dex_types.specs.Side.{Coin, Pc, by_side}
use Rattle.dex_types.specs.Solvency.{all_leaving}
use Rattle.dex_types.specs.Why.{ordering_reasons, standing_reasons}
use Rattle.dex_market.specs.MarketAccount.{sizes_of, vault_of}
use Rattle.dex_market.specs.declared.funds.Vaults.{Vaults}
use Rattle.dex_reasons.proofs.FirstReasons.{first_of-late, first_of-one}
use Rattle.dex_ring.specs.declared.pending_fills.PendingFills.{PendingFills}
use Rattle.dex_ring.specs.Ring.{room_of}
use Rattle.dex_match.specs.declared.foreseeing.OrderProspect.{OrderProspect}
use Rattle.dex_match.specs.declared.order_plan.Decided.{Decided}
use Rattle.dex_match.specs.declared.order_plan.OrderPlan.{OrderPlan}
use Rattle.dex_match.specs.declared.order_terms.Taker.{Taker}
use Rattle.dex_match.specs.Deciding.{Foretells, standing_at}
use Rattle.dex_match.specs.Ordering.{limits_in, order_outcome, order_reason, ordering_in, plan_by, sums_after, vault_after}
use Rattle.dex_match.specs.OrderParts.{OrderParts, standing_in}
use Rattle.dex_match.specs.OrderTerms.{order_of}
use Rattle.dex_match.proofs.ForeseenLaws.{leaving-after}

-- of two groups of reasons the first that holds, where none of the first group does
first-late : (early late : List (Option Refusal)) → first_of early ≡ None → first_of (first_of early ∷ first_of late ∷ []) ≡ first_of late
first-late early late none = ap (λ (r : Option Refusal). first_of (r ∷ first_of late ∷ [])) none ∙ first_of-one (first_of late)

-- what was read of the parts, and foreseen over it; whether an early reason holds
pub record AreRead (parts : OrderParts) (taker : Taker) (foreseen : OrderProspect) (sizes : Lots) (sequence room : ℕ) (early : Option Refusal) : Type 0 where
  pub sizes_read : sizes ≡ sizes_of parts.words
  pub next : sequence ≡ parts.next_sequence
  pub room_read : room + length parts.ring.events ≡ parts.ring.capacity
  pub foretold : Foretells foreseen (standing_at sizes sequence parts.own parts.own_room parts.opposing) parts.account taker
  pub early_is : early ≡ first_of (no_slot parts.account ∷ ask_too_large taker.id_side sizes taker.lots ∷ used_up parts.next_sequence ∷ time_past taker.now taker.max_ts ∷ [])

-- the early reasons, where the sizes were read
pub early-same : (parts : OrderParts) (sizes : Lots) (taker : Taker) → sizes ≡ sizes_of parts.words
    → first_of (no_slot parts.account ∷ ask_too_large taker.id_side sizes taker.lots ∷ used_up parts.next_sequence ∷ time_past taker.now taker.max_ts ∷ [])
    ≡ first_of (standing_reasons taker.id_side (order_of taker) (sizes_of parts.words) parts.next_sequence parts.account)
early-same parts sizes taker is =
    ap (λ (s : Lots). first_of (no_slot parts.account ∷ ask_too_large taker.id_side s taker.lots ∷ used_up parts.next_sequence ∷ time_past taker.now taker.max_ts ∷ [])) is

told : (parts : OrderParts) (taker : Taker) (foreseen : OrderProspect) (sizes : Lots) (sequence room : ℕ) (early : Option Refusal) → AreRead parts taker foreseen sizes sequence room early
    → Foretells foreseen (standing_in parts) parts.account taker
told parts taker foreseen sizes sequence room early read =
    subst (λ (z : Lots). Foretells foreseen (standing_at z parts.next_sequence parts.own parts.own_room parts.opposing) parts.account taker) read.sizes_read
    (subst (λ k. Foretells foreseen (standing_at sizes k parts.own parts.own_room parts.opposing) parts.account taker) read.next read.foretold)

-- the three reasons that need no vault, and the two that do
abbrev without_vaults : Ordering → OrderParts → ℕ → List (Option Refusal)
without_vaults o parts balance = would_self_trade o.met.aborts ∷ no_room (length o.events) (room_of parts.ring) ∷ short_by o.deposit (Some balance) ∷ []

late-same : (parts : OrderParts) (o : Ordering) (balance : ℕ) (aborts : Option ℕ) (needed room deposit : ℕ) → aborts ≡ o.met.aborts → needed ≡ length o.events
    → room ≡ room_of parts.ring → deposit ≡ o.deposit
    → first_of (would_self_trade aborts ∷ no_room needed room ∷ short_by deposit (Some balance) ∷ []) ≡ first_of (without_vaults o parts balance)
late-same parts o balance aborts needed room deposit a n r d = rw (a, n, r, d) refl

late-read : (parts : OrderParts) (taker : Taker) (balance : ℕ) (foreseen : OrderProspect) (sizes : Lots) (sequence room : ℕ) (early : Option Refusal)
    → AreRead parts taker foreseen sizes sequence room early
    → first_of (would_self_trade foreseen.aborts ∷ no_room foreseen.plan.needed room ∷ short_by foreseen.plan.deposit (Some balance) ∷ [])
    ≡ first_of (without_vaults (ordering_in taker.id_side (order_of taker) parts) parts balance)
late-read parts taker balance foreseen sizes sequence room early read =
    let is = told parts taker foreseen sizes sequence room early read in
    late-same parts (ordering_in taker.id_side (order_of taker) parts) balance foreseen.aborts foreseen.plan.needed room foreseen.plan.deposit
    is.aborts (ap (λ (p : OrderPlan). p.needed) is.plan) (omega (arith, read.room_read)) (ap (λ (p : OrderPlan). p.deposit) is.plan)

-- the vaults and the sums that were read are those after the order
pub record AreSums (parts : OrderParts) (side : Side) (foreseen : OrderProspect) (sizes : Lots) (vaults : Vaults) (pending : PendingFills) : Type 0 where
  pub coin_put : vaults.coin ≡ vault_of Coin parts.words + by_side side 0 foreseen.plan.deposit
  pub pc_put : vaults.pc ≡ vault_of Pc parts.words + by_side side foreseen.plan.deposit 0
  pub coin_left : pending.coin ≡ all_leaving Coin parts.ring.events + by_side side (foreseen.sums.lots * sizes.coin) 0
  pub pc_left : pending.pc ≡ all_leaving Pc parts.ring.events + by_side side 0 (foreseen.sums.pc - foreseen.sums.rebates)

last-same : (coin coin' pc pc' coin_left coin_left' pc_left pc_left' : ℕ) → coin ≡ coin' → pc ≡ pc' → coin_left ≡ coin_left' → pc_left ≡ pc_left'
    → first_of (beyond coin coin_left ∷ beyond pc pc_left ∷ []) ≡ first_of (beyond coin' coin_left' ∷ beyond pc' pc_left' ∷ [])
last-same coin coin' pc pc' coin_left coin_left' pc_left pc_left' a b c d = rw (a, b, c, d) refl

outcome-same : (reason reason' : Option Refusal) (plan plan' : OrderPlan) (coin coin' pc pc' : ℕ) → reason ≡ reason' → plan ≡ plan' → coin ≡ coin' → pc ≡ pc'
    → answered {X = Decided} reason (record { plan = plan; pending = record { coin = coin; pc = pc } }) ≡ answered {X = Decided} reason' (record { plan = plan'; pending = record { coin = coin'; pc = pc' } })
outcome-same reason reason' plan plan' coin coin' pc pc' a b c d = rw (a, b, c, d) refl

-- else the vaults decide
pub answers : (parts : OrderParts) (taker : Taker) (balance : ℕ) (foreseen : OrderProspect) (sizes : Lots) (sequence room : ℕ) (early late last : Option Refusal) (vaults : Vaults) (pending : PendingFills)
    → AreRead parts taker foreseen sizes sequence room early → early ≡ None
    → late ≡ first_of (would_self_trade foreseen.aborts ∷ no_room foreseen.plan.needed room ∷ short_by foreseen.plan.deposit (Some balance) ∷ []) → late ≡ None
    → AreSums parts taker.id_side foreseen sizes vaults pending → last ≡ first_of (beyond vaults.coin pending.coin ∷ beyond vaults.pc pending.pc ∷ [])
    → answered {X = Decided} last (record { plan = foreseen.plan; pending = pending }) ≡ order_outcome taker.id_side (order_of taker) parts balance
answers parts taker balance foreseen sizes sequence room early late last vaults pending read none is still sums last_is =
    let side : Side = taker.id_side in
    let n : NewOrder = order_of taker in
    let s : Standing = standing_in parts in
    let met : Meeting = meeting_of side s n in
    let o : Ordering = ordering_in side n parts in
    let told_is = told parts taker foreseen sizes sequence room early read in
    let deposit : foreseen.plan.deposit ≡ o.deposit = ap (λ (p : OrderPlan). p.deposit) told_is.plan in
    let base : foreseen.sums.lots * sizes.coin ≡ met.lots * s.sizes.coin = ap (λ k. k * sizes.coin) told_is.lots ∙ ap (λ (z : Lots). met.lots * z.coin) read.sizes_read in
    let quote : foreseen.sums.pc - foreseen.sums.rebates ≡ met.pc - met.rebates = ap (λ k. k - foreseen.sums.rebates) told_is.pc ∙ ap (λ k. met.pc - k) told_is.rebates in
    let coin_left : pending.coin ≡ (sums_after parts o).coin =
    sums.coin_left ∙ ap (λ k. all_leaving Coin parts.ring.events + by_side side k 0) base ∙ sym (leaving-after Coin parts.ring.events s parts.account taker) in
    let pc_left : pending.pc ≡ (sums_after parts o).pc =
    sums.pc_left ∙ ap (λ k. all_leaving Pc parts.ring.events + by_side side 0 k) quote ∙ sym (leaving-after Pc parts.ring.events s parts.account taker) in
    let later : List (Option Refusal) = beyond (vault_after Coin side parts o) (sums_after parts o).coin ∷ beyond (vault_after Pc side parts o) (sums_after parts o).pc ∷ [] in
    let last_same : last ≡ first_of later = last_is ∙ last-same _ _ _ _ _ _ _ _
    (sums.coin_put ∙ ap (λ k. vault_of Coin parts.words + by_side side 0 k) deposit) (sums.pc_put ∙ ap (λ k. vault_of Pc parts.words + by_side side k 0) deposit) coin_left pc_left in
    let all : order_reason side n parts balance ≡ first_of later =
    first-late (standing_reasons side n (sizes_of parts.words) parts.next_sequence parts.account) (ordering_reasons o (limits_in side parts o balance))
    (sym (early-same parts sizes taker read.sizes_read) ∙ sym read.early_is ∙ none)
    ∙ first_of-late (without_vaults o parts balance) later (sym (late-read parts taker balance foreseen sizes sequence room early read) ∙ sym is ∙ still) in
    outcome-same last (order_reason side n parts balance) foreseen.plan (plan_by n o) pending.coin (sums_after parts o).coin pending.pc (sums_after parts o).pc
    (last_same ∙ sym all) told_is.plan coin_left pc_left

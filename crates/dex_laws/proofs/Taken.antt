-- what a taker takes of the best opposite order, and what it still wants after that
use Rattle.std.proofs.Common.{ℕ, ◌/◌, ◌≤◌, ◌<◌, ◌≡◌, ⊎_elim, Bool, true, false, not, ◌&&◌, cond, ltb, min, refl, ◌∙◌, arith}
use Rattle.std.proofs.Math.Nat.{min-le_left}
use Rattle.std.proofs.lemmas.Bool.{cases_Bool, cond-true, cond-false, ltb-true, and_parts, cond_both, not-true}
use Rattle.dex_types.specs.declared.orders.Order.{Order}
use Rattle.dex_types.specs.declared.terms.SelfTrade.{SelfTrade}
use Rattle.dex_types.specs.declared.terms.SelfTrade.TheVariants.{Decrement, CancelProvide, Abort}
use Rattle.dex_types.specs.declared.terms.Side.{Side}
use Rattle.dex_types.specs.declared.terms.Side.TheVariants.{Bid, Ask}
use Rattle.dex_types.specs.Meeting.{TakerTerms, Demand, is_own, is_post_only, reaches, own_taken, filled, taken}
use Rattle.dex_types.specs.Side.{price_of, crosses}

-- the taker takes these lots, some of them at least, of the best opposite order
pub record Takes (side : Side) (t : TakerTerms) (w : Demand) (order : Order) (lots : ℕ) : Type 0 where
  pub taken_is : taken side t w order ≡ lots
  pub some : 0 < lots
  pub within : lots ≤ order.lots
  pub may_meet : 0 < w.matches
  pub wants : 0 < w.lots
  pub crossing : crosses side t.limit_price (price_of order.id) ≡ true
  pub meets : is_post_only t.order_type ≡ false
  pub of_own : is_own t.owner order ≡ true → lots ≡ own_taken t.self_trade w order
  pub of_other : is_own t.owner order ≡ false → lots ≡ filled side w order

-- nothing is taken of an order that is not reached
pub taken-unreached : (side : Side) (t : TakerTerms) (w : Demand) (order : Order) → reaches side t w order ≡ false → taken side t w order ≡ 0
unfolding taken
taken-unreached side t w order unreached = cond-false _ _ _ unreached

-- of an own order that is reached, what the self-trade rule says
pub taken-own : (side : Side) (t : TakerTerms) (w : Demand) (order : Order) → reaches side t w order ≡ true → is_own t.owner order ≡ true
    → taken side t w order ≡ own_taken t.self_trade w order
unfolding taken
taken-own side t w order reached own = cond-true _ _ _ reached ∙ cond-true _ _ _ own

-- of another trader's order that is reached, what fills
pub taken-other : (side : Side) (t : TakerTerms) (w : Demand) (order : Order) → reaches side t w order ≡ true → is_own t.owner order ≡ false
    → taken side t w order ≡ filled side w order
unfolding taken
taken-other side t w order reached other = cond-true _ _ _ reached ∙ cond-false _ _ _ other

own_taken-le : (rule : SelfTrade) (w : Demand) (order : Order) → own_taken rule w order ≤ order.lots
own_taken-le Decrement w order = min-le_left order.lots w.lots
own_taken-le CancelProvide w order = omega arith
own_taken-le Abort w order = omega arith

filled-le : (side : Side) (w : Demand) (order : Order) → filled side w order ≤ order.lots
filled-le Bid w order = omega (arith, min-le_left (min order.lots w.lots) (w.budget / price_of order.id), min-le_left order.lots w.lots)
filled-le Ask w order = min-le_left order.lots w.lots

-- never more than the order's lots
pub taken-le : (side : Side) (t : TakerTerms) (w : Demand) (order : Order) → taken side t w order ≤ order.lots
unfolding taken
taken-le side t w order =
    cond_both (reaches side t w order) (cond (is_own t.owner order) (own_taken t.self_trade w order) (filled side w order)) 0 (λ lots. lots ≤ order.lots)
    (λ reached. cond_both (is_own t.owner order) (own_taken t.self_trade w order) (filled side w order) (λ lots. lots ≤ order.lots)
    (λ own. own_taken-le t.self_trade w order) (λ other. filled-le side w order))
    (λ unreached. omega arith)

-- the four conditions under which the best opposite order is met
pub reaches-parts : (side : Side) (t : TakerTerms) (w : Demand) (order : Order) → reaches side t w order ≡ true
    → (0 < w.matches) × (0 < w.lots) × (crosses side t.limit_price (price_of order.id) ≡ true) × (is_post_only t.order_type ≡ false)
reaches-parts side t w order reached =
    let crossing : Bool = crosses side t.limit_price (price_of order.id) in
    let last = and_parts (ltb 0 w.matches && ltb 0 w.lots && crossing) (not (is_post_only t.order_type)) reached in
    let third = and_parts (ltb 0 w.matches && ltb 0 w.lots) crossing last.0 in
    let first = and_parts (ltb 0 w.matches) (ltb 0 w.lots) third.0 in
    (ltb-true 0 w.matches first.0, ltb-true 0 w.lots first.1, third.1, not-true (is_post_only t.order_type) last.1)

Takes-reached : (side : Side) (t : TakerTerms) (w : Demand) (order : Order) → 0 < taken side t w order → reaches side t w order ≡ true → Takes side t w order (taken side t w order)
Takes-reached side t w order some reached =
    let parts = reaches-parts side t w order reached in
    record {
      taken_is = refl;
      some = some;
      within = taken-le side t w order;
      may_meet = parts.0;
      wants = parts.1;
      crossing = parts.2;
      meets = parts.3;
      of_own = taken-own side t w order reached;
      of_other = taken-other side t w order reached;
    }

-- where anything is taken, all this is known
pub Takes-taken : (side : Side) (t : TakerTerms) (w : Demand) (order : Order) → 0 < taken side t w order → Takes side t w order (taken side t w order)
Takes-taken side t w order some =
    ⊎_elim (Takes-reached side t w order some)
    (λ (unreached : reaches side t w order ≡ false). absurd (omega (arith, taken-unreached side t w order unreached)))
    (cases_Bool (reaches side t w order))

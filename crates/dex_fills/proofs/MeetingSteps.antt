-- one step of a meeting: over, an order that leaves, an order that keeps lots
use Rattle.std.proofs.Common.{◌≡◌, ℕ, ◌+◌, ◌*◌, ◌^◌, ◌<◌, ◌≤◌, List, [], ◌∷◌, ◌++◌, length, refl, sym, ap, ◌∙◌, subst, arith, true, false, if◌then◌else◌, append_assoc, append-nil, length-append, inl, inr, Bool}
use Rattle.std.proofs.Math.Nat.{mul-le-mul_right}
use Rattle.std.proofs.lemmas.Bool.Decides.{nat_tests}
use Rattle.std.proofs.lemmas.Bool.{cases_lt}
use Rattle.dex_types.specs.declared.orders.Order.{Order}
use Rattle.dex_types.specs.declared.terms.Lots.{Lots}
use Rattle.dex_types.specs.declared.terms.SelfTrade.{SelfTrade}
use Rattle.dex_types.specs.declared.terms.SelfTrade.TheVariants.{Decrement, CancelProvide, Abort}
use Rattle.dex_types.specs.declared.terms.Side.{Side}
use Rattle.dex_types.specs.declared.terms.Side.TheVariants.{Bid, Ask}
use Rattle.dex_types.specs.Meeting.{TakerTerms, Demand, Meeting, meet, taken, demand_after, less, met_first, met_none, met_events, met_lots, met_pc, met_rebate, is_own, reaches, own_taken, filled}

-- with nothing taken of the best order, or no order, the meeting is over
pub meet-none : (side : Side) (t : TakerTerms) (w : Demand) (orders : List Order) → orders ≡ [] → meet side t w orders ≡ met_none side t w orders
meet-none side t w orders e = rw e

pub meet-ended : (side : Side) (t : TakerTerms) (w : Demand) (orders : List Order) (order : Order) (others : List Order) (lots : ℕ) → orders ≡ order ∷ others → lots ≡ taken side t w order → lots ≡ 0 → meet side t w orders ≡ met_none side t w orders
meet-ended side t w orders order others lots e is none = let n : taken side t w order ≡ 0 = sym is ∙ none in rw (e, n)

-- an order that loses all of its lots leaves, and the meeting goes on
pub meet-whole : (side : Side) (t : TakerTerms) (w : Demand) (orders : List Order) (order : Order) (others : List Order) (lots : ℕ) → orders ≡ order ∷ others → lots ≡ taken side t w order → 0 < lots → order.lots ≤ lots → meet side t w orders ≡ met_first side t order lots (meet side t (demand_after side t w order lots) others)
meet-whole side t w orders order others lots e is some all = rw e (rw is (grind (arith, nat_tests)))

-- an order that keeps lots ends it
pub meet-part : (side : Side) (t : TakerTerms) (w : Demand) (orders : List Order) (order : Order) (others : List Order) (lots : ℕ) → orders ≡ order ∷ others → lots ≡ taken side t w order → 0 < lots → lots < order.lots → meet side t w orders ≡ met_first side t order lots (met_none side t (demand_after side t w order lots) (less order lots ∷ others))
meet-part side t w orders order others lots e is some part = rw e (rw is (grind (arith, nat_tests)))

cond-le : (test : Bool) (x y n : ℕ) → x ≤ n → y ≤ n → (if test then x else y) ≤ n
cond-le true x y n hx hy = hx
cond-le false x y n hx hy = hy

own_taken-le : (rule : SelfTrade) (w : Demand) (order : Order) → own_taken rule w order ≤ order.lots
own_taken-le Decrement w order = omega arith
own_taken-le CancelProvide w order = omega arith
own_taken-le Abort w order = omega arith

filled-le : (side : Side) (w : Demand) (order : Order) → filled side w order ≤ order.lots
filled-le Bid w order = omega arith
filled-le Ask w order = omega arith

-- the lots taken of an order are at most its lots
pub taken-le : (side : Side) (t : TakerTerms) (w : Demand) (order : Order) → taken side t w order ≤ order.lots
unfolding taken
taken-le side t w order =
    cond-le (reaches side t w order) _ _ _ (cond-le (is_own t.owner order) _ _ _ (own_taken-le t.self_trade w order) (filled-le side w order)) (omega arith)

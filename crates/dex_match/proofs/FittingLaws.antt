-- what a new order meets in a sound market fits 64 bits
use Rattle.dex_types.specs.Fees.{taker_fee}
use Rattle.std.proofs.Common.{◌≡◌, ℕ, ◌+◌, ◌*◌, ◌^◌, ◌<◌, ◌≤◌, ◌∙◌, List, refl, ap, arith}
use Rattle.dex_types.specs.declared.orders.Order.{Order}
use Rattle.dex_types.specs.declared.terms.Lots.{Lots}
use Rattle.dex_types.specs.declared.terms.Side.{Side}
use Rattle.dex_types.specs.declared.terms.Side.TheVariants.{Bid, Ask}
use Rattle.dex_types.specs.Market.{Market, orders}
use Rattle.dex_types.specs.Meeting.{TakerTerms, Demand, Meeting, meet}
use Rattle.dex_types.specs.NewOrder.{NewOrder, full_lock, terms_of, demand_of, fee_of, meeting_of, spent, standing_of}
use Rattle.dex_types.specs.Side.{opposite, by_side, Coin, Pc}
use Rattle.dex_types.specs.Soundness.{IsSound}
use Rattle.dex_laws.specs.Locks.{locked}
use Rattle.dex_laws.proofs.DemandLaws.{meet-lots, meet-rebates_le}
use Rattle.dex_laws.proofs.MovedLaws.{meet-moved_le}
use Rattle.dex_laws.proofs.SpendLaws.{fee_of-covers, met_by, spent-le}
use Rattle.dex_fills.specs.Prospects.{FitsSums}

-- the sums of a meeting fit where what is locked on the other side does, and what the taker pays
pub fits-paid : (side : Side) (t : TakerTerms) (w : Demand) (opposing : List Order) (fee lock : ℕ) → w.lots < 2 ^ 64 → lock < 2 ^ 64
    → locked (opposite side) t.sizes opposing < 2 ^ 64 → (meet side t w opposing).rebates ≤ fee
    → by_side side ((meet side t w opposing).pc + fee) ((meet side t w opposing).lots * t.sizes.coin) ≤ lock → FitsSums side t.sizes (meet side t w opposing)
fits-paid Bid t w opposing fee lock lots small locks covers paid = record {
  lots = omega (arith, lots, meet-lots Bid t w opposing);
  base = omega (arith, locks, meet-moved_le Bid t w opposing);
  pc = omega (arith, small, paid);
  rebates = omega (arith, small, paid, covers);
  received = λ bid. omega (arith, small, paid, covers);
}
fits-paid Ask t w opposing fee lock lots small locks covers paid = record {
  lots = omega (arith, lots, meet-lots Ask t w opposing);
  base = omega (arith, small, paid);
  pc = omega (arith, locks, meet-moved_le Ask t w opposing);
  rebates = omega (arith, locks, meet-moved_le Ask t w opposing, meet-rebates_le Ask t w opposing);
  received = λ bid. absurd cc;
}

-- so do those of a new order whose lock does
pub fits-sums : (side : Side) (sizes : Lots) (n : NewOrder) (opposing : List Order) → n.lots < 2 ^ 64 → full_lock side sizes n < 2 ^ 64
    → locked (opposite side) sizes opposing < 2 ^ 64 → FitsSums side sizes (met_by side sizes n opposing)
fits-sums side sizes n opposing lots lock locks =
    fits-paid side (terms_of sizes n) (demand_of side sizes n) opposing (fee_of n (met_by side sizes n opposing)) (full_lock side sizes n) lots lock locks
    (omega (arith, fee_of-covers side sizes n opposing)) (rw (← (spent-by_side side sizes n (met_by side sizes n opposing))) (spent-le side sizes n opposing))
  where
    spent-by_side : (side : Side) (sizes : Lots) (n : NewOrder) (met : Meeting) → spent side sizes n met ≡ by_side side (met.pc + fee_of n met) (met.lots * sizes.coin)
    spent-by_side Bid sizes n met = refl
    spent-by_side Ask sizes n met = refl

-- what a side of a sound market locks is in its vault
pub locks-fit : (side : Side) (m : Market) → IsSound m → locked (opposite side) m.listing.sizes (orders (opposite side) m) < 2 ^ 64
locks-fit Bid m sound = omega (arith, sound.funds.solvent.vaults Coin, sound.funds.bounded Coin)
locks-fit Ask m sound = omega (arith, sound.funds.solvent.vaults Pc, sound.funds.bounded Pc)

pub meeting-fits : (side : Side) (m : Market) (n : NewOrder) → IsSound m → n.lots < 2 ^ 64 → full_lock side m.listing.sizes n < 2 ^ 64
    → FitsSums side m.listing.sizes (meeting_of side (standing_of side m) n)
meeting-fits side m n sound lots lock = fits-sums side m.listing.sizes n (orders (opposite side) m) lots lock (locks-fit side m sound)

-- what fills take from the lock of an order, by the sums of what it met: the fee with a bid's
pub record IsPaid (side : Side) (sizes : Lots) (n : NewOrder) (met : Meeting) (pc lots fee lock : ℕ) : Type 0 where
  pub bid : side ≡ Bid → pc + fee < 2 ^ 64
  pub ask : side ≡ Ask → lots * sizes.coin < 2 ^ 64
  pub is : (spent_by : ℕ) → (side ≡ Bid → spent_by ≡ pc + fee) → (side ≡ Ask → spent_by ≡ lots * sizes.coin) → spent_by ≡ spent side sizes n met

is-paid : (side : Side) (sizes : Lots) (n : NewOrder) (met : Meeting) (pc lots fee lock : ℕ) → pc ≡ met.pc → lots ≡ met.lots → fee ≡ fee_of n met → spent side sizes n met ≤ lock → lock < 2 ^ 64
    → IsPaid side sizes n met pc lots fee lock
is-paid Bid sizes n met pc lots fee lock p l f enough small = record {
  bid = λ bid. omega (arith, p, f, enough, small);
  ask = λ ask. absurd cc;
  is = λ spent_by bid ask. omega (arith, bid refl, p, f);
}
is-paid Ask sizes n met pc lots fee lock p l f enough small =
    let base : lots * sizes.coin ≡ met.lots * sizes.coin = ap (λ k. k * sizes.coin) l in record {
      bid = λ bid. absurd cc;
      ask = λ ask. omega (arith, base, enough, small);
      is = λ spent_by bid ask. omega (arith, ask refl, base);
    }

-- a new order with this lock pays what it meets from it
pub order-paid : (side : Side) (sizes : Lots) (n : NewOrder) (opposing : List Order) (met : Meeting) (pc lots fee lock : ℕ) → met ≡ met_by side sizes n opposing → pc ≡ met.pc → lots ≡ met.lots
    → fee ≡ taker_fee n.program n.tier pc → lock ≡ full_lock side sizes n → lock < 2 ^ 64 → IsPaid side sizes n (met_by side sizes n opposing) pc lots fee lock
order-paid side sizes n opposing met pc lots fee lock same p l f locks small =
    let whole : Meeting = met_by side sizes n opposing in
    let p_is : pc ≡ whole.pc = p ∙ ap (λ (m : Meeting). m.pc) same in
    let l_is : lots ≡ whole.lots = l ∙ ap (λ (m : Meeting). m.lots) same in
    is-paid side sizes n whole pc lots fee lock p_is l_is (f ∙ ap (taker_fee n.program n.tier) p_is) (omega (arith, locks, spent-le side sizes n opposing)) small

-- laws of single fills and releases: the maker's price and tier, the taker's limit, and the order's lock
use Rattle.std.proofs.Common.{ℕ, ◌+◌, ◌*◌, ◌≡◌, ⊎_elim, true, false, List, refl, sym, ap, ◌∙◌, arith}
use Rattle.std.specs.List.{All, Contains}
use Rattle.std.proofs.Math.Nat.{mul_assoc, mul_right_comm, mul-add, add-mul, mul-le-mul_right}
use Rattle.std.proofs.lemmas.Bool.{cases_Bool, leb-true}
use Rattle.std.proofs.lemmas.List.Elements.{All-contains_itself}
use Rattle.dex_types.specs.declared.orders.Order.{Order}
use Rattle.dex_types.specs.declared.terms.Lots.{Lots}
use Rattle.dex_types.specs.declared.terms.Program.{Program}
use Rattle.dex_types.specs.declared.terms.Side.{Side}
use Rattle.dex_types.specs.declared.terms.Side.TheVariants.{Bid, Ask}
use Rattle.dex_types.specs.declared.terms.Tier.{Tier}
use Rattle.dex_types.specs.Fees.{maker_rebate, tier_at}
use Rattle.dex_types.specs.Meeting.{TakerTerms, Demand, is_own, fill_pc, maker_fill, met_lots, met_pc, meet}
use Rattle.dex_types.specs.QueuedEvent.{QueuedEvent}
use Rattle.dex_types.specs.Side.{price_of, opposite, crosses}
use Rattle.dex_laws.specs.Fills.{IsPricedByMaker, SplitsLockAs, IsWithinLimit}
use Rattle.dex_laws.specs.Moved.{filled_pc}
use Rattle.dex_laws.proofs.EachEventLaws.{meet-each}
use Rattle.dex_laws.proofs.MeetLaws.{meet-induction}
use Rattle.dex_laws.proofs.MovedLaws.{pc-fill, lock-less}

maker_rebate-none : (program : Program) (tier : Tier) → maker_rebate program tier 0 ≡ 0
maker_rebate-none program tier = omega arith

priced : (t : TakerTerms) (order : Order) (lots pc : ℕ) → pc ≡ fill_pc t.sizes order lots
    → pc * t.sizes.coin ≡ price_of order.id * (lots * t.sizes.coin) * t.sizes.pc
priced t order lots pc is =
    rw is (mul_right_comm (price_of order.id * lots) t.sizes.pc t.sizes.coin ∙ ap (λ p. p * t.sizes.pc) (mul_assoc (price_of order.id) lots t.sizes.coin))

price-fill : (maker : Side) (t : TakerTerms) (order : Order) (lots : ℕ) → IsPricedByMaker t.program t.sizes (maker_fill maker t order lots)
price-fill Bid t order lots = record {
  price = priced t order lots (filled_pc (maker_fill Bid t order lots)) (pc-fill Bid t order lots);
  rebate = ap (maker_rebate t.program (tier_at order.tier)) (sym (pc-fill Bid t order lots));
}
price-fill Ask t order lots = record {
  price = priced t order lots (filled_pc (maker_fill Ask t order lots)) (pc-fill Ask t order lots);
  rebate = ap (maker_rebate t.program (tier_at order.tier)) (sym (pc-fill Ask t order lots));
}

-- each fill is at the maker's price, with the rebate of the maker's tier
pub meet-IsPricedByMaker : (side : Side) (t : TakerTerms) (w : Demand) (orders : List Order) → All (IsPricedByMaker t.program t.sizes) (meet side t w orders).events
meet-IsPricedByMaker side t w orders =
    meet-each (λ order. Unit {0}) (IsPricedByMaker t.program t.sizes) side t
    (λ order lots holds within. record { price = omega arith; rebate = sym (maker_rebate-none t.program (tier_at order.tier)) })
    (λ order lots holds within. price-fill (opposite side) t order lots)
    (λ order holds. record { price = omega arith; rebate = sym (maker_rebate-none t.program (tier_at order.tier)) })
    w orders (λ k d inside. tt)

-- each release splits what its order locked
splits-fill : (maker of : Side) (t : TakerTerms) (orders : List Order) (order : Order) (lots : ℕ)
    → SplitsLockAs (maker_fill maker t order lots).kind of t.sizes orders (maker_fill maker t order lots)
splits-fill Bid of t orders order lots = tt
splits-fill Ask of t orders order lots = tt

-- what is released and what stays locked was locked by an order that stood there
pub meet-SplitsLock : (side : Side) (t : TakerTerms) (w : Demand) (orders : List Order)
    → All (λ (e : QueuedEvent). SplitsLockAs e.kind (opposite side) t.sizes orders e) (meet side t w orders).events
meet-SplitsLock side t w orders =
    meet-each (Contains orders) (λ (e : QueuedEvent). SplitsLockAs e.kind (opposite side) t.sizes orders e) side t
    (λ order lots stood within. record {
      order = order;
      stood = stood;
      id = refl;
      split = omega (arith, lock-less (opposite side) t.sizes (price_of order.id) order.lots lots within);
    })
    (λ order lots stood within. splits-fill (opposite side) (opposite side) t orders order lots)
    (λ order stood. tt)
    w orders (All-contains_itself orders)

-- of one order that crosses: its price is within the limit
limit-step : (side : Side) (t : TakerTerms) (order : Order) (lots : ℕ) → crosses side t.limit_price (price_of order.id) ≡ true
    → IsWithinLimit side t.sizes t.limit_price (met_lots t order lots) (met_pc t order lots)
limit-step Bid t order lots crossing =
    ⊎_elim (λ (own : is_own t.owner order ≡ true). rw own (omega arith))
    (λ (other : is_own t.owner order ≡ false). rw other
    (mul-le-mul_right t.sizes.pc (mul-le-mul_right lots (leb-true (price_of order.id) t.limit_price crossing))))
    (cases_Bool (is_own t.owner order))
limit-step Ask t order lots crossing =
    ⊎_elim (λ (own : is_own t.owner order ≡ true). rw own (omega arith))
    (λ (other : is_own t.owner order ≡ false). rw other
    (mul-le-mul_right t.sizes.pc (mul-le-mul_right lots (leb-true t.limit_price (price_of order.id) crossing))))
    (cases_Bool (is_own t.owner order))

limit-add : (side : Side) (sizes : Lots) (limit lots pc more more_pc : ℕ) → IsWithinLimit side sizes limit lots pc → IsWithinLimit side sizes limit more more_pc
    → IsWithinLimit side sizes limit (lots + more) (pc + more_pc)
limit-add Bid sizes limit lots pc more more_pc first rest =
    rw (mul-add limit lots more, add-mul (limit * lots) (limit * more) sizes.pc) (omega arith)
limit-add Ask sizes limit lots pc more more_pc first rest =
    rw (mul-add limit lots more, add-mul (limit * lots) (limit * more) sizes.pc) (omega arith)

limit-none : (side : Side) (sizes : Lots) (limit : ℕ) → IsWithinLimit side sizes limit 0 0
limit-none Bid sizes limit = omega arith
limit-none Ask sizes limit = omega arith

-- a bid pays at most its limit price for what it gets, and an ask gets at least its limit price
pub meet-IsWithinLimit : (side : Side) (t : TakerTerms) (w : Demand) (orders : List Order)
    → IsWithinLimit side t.sizes t.limit_price (meet side t w orders).lots (meet side t w orders).pc
meet-IsWithinLimit side t = meet-induction side t (λ w orders met. IsWithinLimit side t.sizes t.limit_price met.lots met.pc) (record {
  ended = λ w orders none. limit-none side t.sizes t.limit_price;
  part = λ w order others lots takes part.
      limit-add side t.sizes t.limit_price (met_lots t order lots) (met_pc t order lots) 0 0 (limit-step side t order lots takes.crossing) (limit-none side t.sizes t.limit_price);
  whole = λ w order others lots rest takes whole held.
      limit-add side t.sizes t.limit_price (met_lots t order lots) (met_pc t order lots) rest.lots rest.pc (limit-step side t order lots takes.crossing) held;
})

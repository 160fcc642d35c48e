-- How a meeting goes on, order by order: what is met so far, joined to the meeting of what is left, is the whole.
use Rattle.std.proofs.Common.{ℕ, ◌+◌, ◌*◌, ◌^◌, ◌<◌, ◌≤◌, ◌≡◌, ⊎_elim, true, false, List, [], ◌∷◌, drop, refl, sym, ap, ◌∙◌, subst, arith}
use Rattle.std.proofs.Math.Nat.{mul-le-mul_right, mul-le-mul_left, add-mul}
use Rattle.std.proofs.lemmas.Bool.{cases_Bool}
use Rattle.dex_types.specs.declared.orders.Order.{Order}
use Rattle.dex_types.specs.declared.terms.Side.{Side}
use Rattle.dex_types.specs.declared.terms.Side.TheVariants.{Bid, Ask}
use Rattle.dex_types.specs.Meeting.{TakerTerms, Demand, Meeting, demand_after, fill_pc, is_own, less, meet, met_first, met_lots, met_none, met_pc, met_rebate, taken}
use Rattle.dex_types.specs.Side.{opposite, price_of}
use Rattle.dex_laws.proofs.DemandLaws.{demand_after-matches, met_lots-demand, met_pc-budget}
use Rattle.dex_laws.proofs.Taken.{Takes, Takes-taken}
use Rattle.dex_fills.proofs.MeetingSteps.{meet-ended, meet-part, meet-whole}
use Rattle.dex_eager_market.specs.declared.foreseeing.Sums.{Sums}
use Rattle.dex_eager_market.specs.Foreseen.{AddsOrder, CanFill, IsModest}

-- what was met so far, joined to the meeting of what is left, is the whole
pub record IsCarried (coin : ℕ) (whole rest : Meeting) (sums : Sums) : Type 0 where
  pub left : rest.left ≡ whole.left
  pub demand : rest.demand ≡ whole.demand
  pub base : sums.base + rest.lots * coin ≡ whole.lots * coin
  pub pc : sums.pc + rest.pc ≡ whole.pc
  pub rebates : sums.rebates + rest.rebates ≡ whole.rebates
  pub aborts : rest.aborts ≡ whole.aborts

pub carried-start : (coin : ℕ) (whole : Meeting) → IsCarried coin whole whole (record { base = 0; pc = 0; rebates = 0 })
carried-start coin whole = record {
  left = refl;
  demand = refl;
  base = omega arith;
  pc = omega arith;
  rebates = omega arith;
  aborts = refl;
}

pub carried-more : (side : Side) (t : TakerTerms) (order : Order) (lots : ℕ) (whole met rest : Meeting) (sums after : Sums) → IsCarried t.sizes.coin whole met sums
    → met ≡ met_first side t order lots rest → AddsOrder t order lots sums after → IsCarried t.sizes.coin whole rest after
carried-more side t order lots whole met rest sums after carried first adds =
    let l : met.left ≡ rest.left = ap (λ (m : Meeting). m.left) first in
    let w : met.demand ≡ rest.demand = ap (λ (m : Meeting). m.demand) first in
    let a : met.lots * t.sizes.coin ≡ met_lots t order lots * t.sizes.coin + rest.lots * t.sizes.coin =
    ap (λ (m : Meeting). m.lots * t.sizes.coin) first ∙ add-mul (met_lots t order lots) rest.lots t.sizes.coin in
    let b : met.pc ≡ met_pc t order lots + rest.pc = ap (λ (m : Meeting). m.pc) first in
    let c : met.rebates ≡ met_rebate t order lots + rest.rebates = ap (λ (m : Meeting). m.rebates) first in
    let d : met.aborts ≡ rest.aborts = ap (λ (m : Meeting). m.aborts) first in
    record {
      left = sym l ∙ carried.left;
      demand = sym w ∙ carried.demand;
      base = omega (arith, carried.base, a, adds.base);
      pc = omega (arith, carried.pc, b, adds.pc);
      rebates = omega (arith, carried.rebates, c, adds.rebates);
      aborts = sym d ∙ carried.aborts;
    }

-- an own order fills nothing; of another's no more fills than it has
met_lots-le : (t : TakerTerms) (order : Order) (lots most : ℕ) → lots ≤ most → met_lots t order lots ≤ most
met_lots-le t order lots most le =
    ⊎_elim (λ (own : is_own t.owner order ≡ true). rw own (omega arith)) (λ (other : is_own t.owner order ≡ false). rw other le) (cases_Bool (is_own t.owner order))

met_pc-le : (t : TakerTerms) (order : Order) (lots : ℕ) → met_pc t order lots ≤ fill_pc t.sizes order lots
met_pc-le t order lots =
    ⊎_elim (λ (own : is_own t.owner order ≡ true). rw own (omega arith)) (λ (other : is_own t.owner order ≡ false). rw other (omega arith)) (cases_Bool (is_own t.owner order))

takes-lots : (side : Side) (t : TakerTerms) (w : Demand) (order : Order) (lots : ℕ) → lots ≡ taken side t w order → 0 < lots → Takes side t w order lots
takes-lots side t w order lots is some = subst (Takes side t w order) (sym is) (Takes-taken side t w order (omega (arith, is, some)))

-- what one order that is met moves fits, and what is wanted after it does too
pub record FitsOrder (side : Side) (t : TakerTerms) (w : Demand) (order : Order) (lots : ℕ) : Type 0 where
  pub base : met_lots t order lots * t.sizes.coin < 2 ^ 64
  pub pc : met_pc t order lots < 2 ^ 64
  pub modest : IsModest side t.sizes (demand_after side t w order lots)
  pub matches : (demand_after side t w order lots).matches + 1 ≡ w.matches

pub fits-order : (side : Side) (t : TakerTerms) (w : Demand) (order : Order) (lots : ℕ) → IsModest side t.sizes w → CanFill (opposite side) t.sizes order
    → lots ≡ taken side t w order → 0 < lots → FitsOrder side t w order lots
fits-order Bid t w order lots modest can is some =
    let takes : Takes Bid t w order lots = takes-lots Bid t w order lots is some in
    let few : met_lots t order lots ≤ order.lots = met_lots-le t order lots order.lots takes.within in
    let spent = met_pc-budget t w order lots takes in
    let one = demand_after-matches Bid t w order lots in
    record {
      base = omega (arith, mul-le-mul_right t.sizes.coin few, can.lock);
      pc = omega (arith, spent, modest.budget refl);
      modest = record {
        budget = λ bid. omega (arith, spent, modest.budget refl);
        lots = λ ask. absurd cc;
        matches = omega (arith, one, modest.matches);
      };
      matches = omega (arith, one, takes.may_meet);
    }
fits-order Ask t w order lots modest can is some =
    let takes : Takes Ask t w order lots = takes-lots Ask t w order lots is some in
    let wanted = met_lots-demand Ask t w order lots takes in
    let few : met_lots t order lots ≤ w.lots = omega (arith, wanted) in
    let after : (demand_after Ask t w order lots).lots ≤ w.lots = omega (arith, wanted) in
    let one = demand_after-matches Ask t w order lots in
    record {
      base = omega (arith, mul-le-mul_right t.sizes.coin few, modest.lots refl);
      pc = omega (arith, met_pc-le t order lots, mul-le-mul_right t.sizes.pc (mul-le-mul_left (price_of order.id) takes.within), can.lock);
      modest = record {
        budget = λ bid. absurd cc;
        lots = λ ask. omega (arith, mul-le-mul_right t.sizes.coin after, modest.lots refl);
        matches = omega (arith, one, modest.matches);
      };
      matches = omega (arith, one, takes.may_meet);
    }

-- ---- a walk from the front that has come to an order

-- an order that stands for none
abbrev pub no_order : Order
no_order = record { id = 0; owner = record { 0 = [] }; slot = 0; tier = 0; lots = 0; client = 0 }

-- the meeting from there on, where nothing is taken, part of the order, or all of it
pub meets-none : (side : Side) (t : TakerTerms) (w : Demand) (orders : List Order) (place : ℕ) (order : Order) (lots : ℕ) → drop place orders ≡ order ∷ drop (place + 1) orders
    → lots ≡ taken side t w order → lots ≡ 0 → meet side t w (drop place orders) ≡ met_none side t w (order ∷ drop (place + 1) orders)
meets-none side t w orders place order lots on is none =
    meet-ended side t w (drop place orders) order (drop (place + 1) orders) lots on is none ∙ ap (met_none side t w) on

pub meets-part : (side : Side) (t : TakerTerms) (w after : Demand) (orders : List Order) (place : ℕ) (order : Order) (lots : ℕ) → drop place orders ≡ order ∷ drop (place + 1) orders
    → lots ≡ taken side t w order → 0 < lots → lots < order.lots → after ≡ demand_after side t w order lots
    → meet side t w (drop place orders) ≡ met_first side t order lots (met_none side t after (less order lots ∷ drop (place + 1) orders))
meets-part side t w after orders place order lots on is some part then =
    meet-part side t w (drop place orders) order (drop (place + 1) orders) lots on is some part
    ∙ ap (λ (d : Demand). met_first side t order lots (met_none side t d (less order lots ∷ drop (place + 1) orders))) (sym then)

pub meets-whole : (side : Side) (t : TakerTerms) (w after : Demand) (orders : List Order) (place : ℕ) (order : Order) (lots : ℕ) → drop place orders ≡ order ∷ drop (place + 1) orders
    → lots ≡ taken side t w order → 0 < lots → order.lots ≤ lots → after ≡ demand_after side t w order lots
    → meet side t w (drop place orders) ≡ met_first side t order lots (meet side t after (drop (place + 1) orders))
meets-whole side t w after orders place order lots on is some all then =
    meet-whole side t w (drop place orders) order (drop (place + 1) orders) lots on is some all
    ∙ ap (λ (d : Demand). met_first side t order lots (meet side t d (drop (place + 1) orders))) (sym then)

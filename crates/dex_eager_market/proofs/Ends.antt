-- A meeting that goes no further was foreseen.
use Rattle.std.proofs.Common.{ℕ, ◌-◌, ◌*◌, ◌≤◌, ◌≡◌, List, [], ◌∷◌, length, drop, is_some, refl, sym, ap, ◌∙◌, arith}
use Rattle.std.specs.List.{All}
use Rattle.std.proofs.Math.Nat.{mul-le-mul_right, mul-le-mul_left}
use Rattle.std.proofs.lemmas.List.{length-drop}
use Rattle.std.proofs.lemmas.List.Elements.{All-nil, All-cons, All-head, All-tail, All-drop}
use Rattle.dex_types.specs.declared.orders.Order.{Order}
use Rattle.dex_types.specs.declared.terms.Lots.{Lots}
use Rattle.dex_types.specs.declared.terms.Side.{Side}
use Rattle.dex_types.specs.declared.terms.Side.TheVariants.{Bid, Ask}
use Rattle.dex_types.specs.Meeting.{TakerTerms, Meeting, aborts_at, less, met_none}
use Rattle.dex_types.specs.Posting.{still_crosses}
use Rattle.dex_types.specs.Side.{price_of}
use Rattle.dex_fills.specs.Taker.{demand}
use Rattle.dex_eager_market.specs.declared.foreseeing.ListProspect.{ListProspect}
use Rattle.dex_eager_market.specs.Foreseen.{CanFill, IsForeseen, left_by, less_first}
use Rattle.dex_eager_market.proofs.Meetings.{IsCarried}

-- with these orders left
pub foreseen-ended : (side : Side) (t : TakerTerms) (limit : ℕ) (orders : List Order) (whole rest : Meeting) (met : ListProspect) (left : List Order) (result : ListProspect)
    → IsCarried t.sizes.coin whole rest met.sums → rest ≡ met_none side t (demand met.want) left
    → left_by result.gone result.part orders ≡ left → result.gone ≤ length orders
    → result.want ≡ met.want → result.sums ≡ met.sums → result.crosses ≡ still_crosses side limit left
    → result.aborts ≡ is_some (aborts_at side t (demand met.want) left) → IsForeseen side t.sizes limit orders whole result
foreseen-ended side t limit orders whole rest met left result carried none left_is within want_is sums_is crosses_is aborts_is =
    let same : left ≡ whole.left = sym (ap (λ (m : Meeting). m.left) none) ∙ carried.left in
    let none_met : rest.lots ≡ 0 = ap (λ (m : Meeting). m.lots) none in
    let lots : rest.lots * t.sizes.coin ≡ 0 = ap (λ (n : ℕ). n * t.sizes.coin) none_met ∙ omega arith in
    record {
      demand_is = ap demand want_is ∙ sym (ap (λ (m : Meeting). m.demand) none) ∙ carried.demand;
      base = omega (arith, carried.base, lots, ap (λ s. s.base) sums_is);
      pc = omega (arith, carried.pc, ap (λ (m : Meeting). m.pc) none, ap (λ s. s.pc) sums_is);
      rebates = omega (arith, carried.rebates, ap (λ (m : Meeting). m.rebates) none, ap (λ s. s.rebates) sums_is);
      left = left_is ∙ same;
      within = within;
      crosses = crosses_is ∙ ap (still_crosses side limit) same;
      aborts = aborts_is ∙ ap is_some (sym (ap (λ (m : Meeting). m.aborts) none) ∙ carried.aborts);
    }

-- an order with fewer lots can fill too
can-fill-less : (side : Side) (sizes : Lots) (order : Order) (part : ℕ) → CanFill side sizes order → CanFill side sizes (less order part)
can-fill-less Bid sizes order part can =
    let fewer : order.lots - part ≤ order.lots = omega arith in record {
      lock = omega (arith, mul-le-mul_right sizes.pc (mul-le-mul_left (price_of order.id) fewer), can.lock);
      tier = can.tier;
    }
can-fill-less Ask sizes order part can =
    let fewer : order.lots - part ≤ order.lots = omega arith in record { lock = omega (arith, mul-le-mul_right sizes.coin fewer, can.lock); tier = can.tier }

-- what is left can fill, and is no longer
pub can-fill-left : (side : Side) (sizes : Lots) (gone part : ℕ) (orders : List Order) → All (CanFill side sizes) orders → All (CanFill side sizes) (left_by gone part orders)
can-fill-left side sizes gone part orders all = first (drop gone orders) (All-drop (CanFill side sizes) gone orders all)
  where
    first : (some : List Order) → All (CanFill side sizes) some → All (CanFill side sizes) (less_first part some)
    first [] can = All-nil (CanFill side sizes)
    first (order ∷ others) can =
        All-cons (CanFill side sizes) (less order part) others (can-fill-less side sizes order part (All-head (CanFill side sizes) order others can))
        (All-tail (CanFill side sizes) order others can)

length-less_first : (part : ℕ) (orders : List Order) → length (less_first part orders) ≡ length orders
length-less_first part [] = refl
length-less_first part (order ∷ others) = refl

pub length-left : (gone part : ℕ) (orders : List Order) → length (left_by gone part orders) ≤ length orders
length-left gone part orders = omega (arith, length-less_first part (drop gone orders), length-drop gone orders)

-- what is left where the next order lost nothing, and where it lost a part
pub left-same : (orders : List Order) (gone : ℕ) (order : Order) (others : List Order) (g p : ℕ) → g ≡ gone → p ≡ 0 → drop gone orders ≡ order ∷ others
    → left_by g p orders ≡ order ∷ others
left-same orders gone order others g p g_is p_is on =
    let all : order.lots - 0 ≡ order.lots = omega arith in
    rw g_is rw p_is rw on (ap (λ (n : ℕ). let o : Order = record order { lots = n } in o ∷ others) all)

pub left-less : (orders : List Order) (gone : ℕ) (order : Order) (others : List Order) (lots g p : ℕ) → g ≡ gone → p ≡ lots → drop gone orders ≡ order ∷ others
    → left_by g p orders ≡ less order lots ∷ others
left-less orders gone order others lots g p g_is p_is on = rw g_is rw p_is rw on refl

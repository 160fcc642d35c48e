-- which of an owner's orders comes first on a side, by what its slots hold there
use Rattle.std.proofs.Common.{ℕ, ◌+◌, ◌≡◌, ◌≤◌, ◌<◌, true, false, ◌&&◌, eqb, List, [], ◌∷◌, Option, Some, None, length, refl, sym, ap, ◌∙◌, subst, arith, inl, inr}
use Rattle.std.specs.List.{All}
use Rattle.std.specs.Option.{IfSome, option_or}
use Rattle.std.proofs.lemmas.Bool.{and_from, and_parts, both_ways, cases_Bool, cases_lt, cond_both, cond-true, cond-false, eq-eqb, ne_eqb}
use Rattle.std.proofs.lemmas.List.{get_or_past}
use Rattle.std.proofs.lemmas.List.Elements.{All-cons, All-head, All-nil, All-tail}
use Rattle.dex_types.specs.declared.addresses.Address.{Address}
use Rattle.dex_types.specs.declared.orders.Order.{Order}
use Rattle.dex_types.specs.declared.terms.Side.{Side}
use Rattle.dex_types.specs.Cancel.{order_with}
use Rattle.dex_types.specs.Posting.{InBookOrder}
use Rattle.dex_types.specs.Side.{precedes}
use Rattle.dex_types.specs.Soundness.{order_holding}
use Rattle.dex_types.specs.Tokens.{is_same_side}
use Rattle.dex_types.specs.Trader.{Holding}
use Rattle.dex_orders.specs.Bits.{is_set}
use Rattle.dex_laws.proofs.BestFirstLaws.{All-PrecedesAll}
use Rattle.dex_laws.proofs.IdLaws.{precedes-apart, precedes-irreflexive, precedes-transitive}
use Rattle.dex_sound.proofs.PlaceLaws.{is_same_side-refl}
use Rattle.dex_sound.proofs.WithoutLaws.{found-All, found-id}
use Rattle.dex_cancel_slots.specs.FirstOwn.{IsFirstOwn, RestsOwn, StandsBehind, StandsNotAhead, earlier, is_ahead, is_behind}
use Rattle.dex_cancel_slots.specs.Slots.{AreBitsOf, AreClear, DoSlotsNameOn, IsAsHeld, IsHeldIn, IsIdOf, held_in, is_held, is_on}

-- ---- each order is found by its id

-- the order of its id is the order
abbrev IsFound : List Order → Order → Type 0
IsFound orders order = order_with order.id orders ≡ Some order

-- so after an order that stands before
found-behind : (side : Side) (first : Order) (others some : List Order) → All (λ (o : Order). precedes side first.id o.id ≡ true) some
    → All (IsFound others) some → All (IsFound (first ∷ others)) some
found-behind side first others [] before found = All-nil (IsFound (first ∷ others))
found-behind side first others (one ∷ some) before found =
    let Before : Order → Type 0 = λ o. precedes side first.id o.id ≡ true in
    let apart : eqb first.id one.id ≡ false = ne_eqb first.id one.id (precedes-apart side first.id one.id (All-head Before one some before)) in
    All-cons (IsFound (first ∷ others)) one some
    (cond-false _ _ _ apart ∙ All-head (IsFound others) one some found)
    (found-behind side first others some (All-tail Before one some before) (All-tail (IsFound others) one some found))

all-found : (side : Side) (orders : List Order) → InBookOrder side orders → All (IsFound orders) orders
all-found side [] sorted = All-nil (IsFound [])
all-found side (first ∷ others) sorted =
    All-cons (IsFound (first ∷ others)) first others (cond-true _ _ _ (eq-eqb first.id first.id refl))
    (found-behind side first others others (All-PrecedesAll side first.id others sorted.0) (all-found side others sorted.1))

-- ---- what stands before what

-- what does not stand before the first does not stand before one that does
ahead-kept : (side : Side) (id : ℕ) (order : Order) (first : Option Order) → is_ahead side id first ≡ false → is_ahead side order.id first ≡ true
    → precedes side id order.id ≡ false
ahead-kept side id order None behind ahead = absurd (cc)
ahead-kept side id order (Some first) behind ahead =
    elim (cases_Bool (precedes side id order.id)) [
      | inl before ↦ absurd (both_ways (precedes side id first.id) behind (precedes-transitive side id order.id first.id before ahead))
      | inr other ↦ other
    ]

-- a slot holds an order of the side
record HoldsOn (side : Side) (slot : Option Holding) : Type 0 where
  pub held : Holding
  pub holds : slot ≡ Some held
  pub on : is_same_side held.side side ≡ true

holds-on : (side : Side) (slot : Option Holding) → is_held (is_on side) slot ≡ true → HoldsOn side slot
holds-on side None is = absurd (cc)
holds-on side (Some held) is = record { held = held; holds = refl; on = is }

-- ---- slot by slot

-- this order comes first of the owner's that the slots before this one hold
pub record IsFirstTo (owner : Address) (slots : List (Option Holding)) (side : Side) (last : Option ℕ) (orders : List Order) (slot : ℕ) (first : Option Order) : Type 0 where
  pub rests : IfSome first (RestsOwn owner orders)
  pub passed : (at : ℕ) (held : Holding) (order : Order) → at < slot → held_in slots at ≡ Some held → is_same_side held.side side ≡ true
      → order_with held.id orders ≡ Some order → is_behind side last order.id ≡ true → is_ahead side order.id first ≡ false

module _ (owner : Address) (slots : List (Option Holding)) (side : Side) (last : Option ℕ) (orders : List Order) where
  -- the orders of slots whose bits are clear
  module _ (bits : ℕ) (are : AreBitsOf (is_on side) slots bits) where
    no-own : (at : ℕ) (held : Holding) → at < 128 → is_set bits at ≡ false → held_in slots at ≡ Some held → is_same_side held.side side ≡ true → ⊥
    no-own at held within clear holds on = both_ways (is_set bits at) clear (are at within ∙ ap (is_held (is_on side)) holds ∙ on)

    pub first-none : (to : ℕ) → to ≤ 128 → AreClear bits 0 to → IsFirstTo owner slots side last orders to None
    first-none to most clear = record {
      rests = tt;
      passed = λ at held order before holds on found behind. absurd (no-own at held (omega (arith, before, most)) (clear at (omega arith) before) holds on);
    }

    first-skip : (slot to : ℕ) (first : Option Order) → to ≤ 128 → AreClear bits slot to → IsFirstTo owner slots side last orders slot first
        → IsFirstTo owner slots side last orders to first
    first-skip slot to first most clear is = record {
      rests = is.rests;
      passed = λ at held order before holds on found behind. elim (cases_lt at slot) [
        | inl passed ↦ is.passed at held order passed holds on found behind
        | inr later ↦ absurd (no-own at held (omega (arith, before, most)) (clear at later before) holds on)
      ];
    }

    -- one more slot
    module _ (names : DoSlotsNameOn owner slots side orders) (slot id : ℕ) (first : Option Order) (held : HoldsOn side (held_in slots slot)) (id_is : held.held.id ≡ id)
        (is : IsFirstTo owner slots side last orders slot first) where
      -- the order of the slot's id is the owner's
      slot-own : (order : Order) → order_with id orders ≡ Some order → RestsOwn owner orders order
      slot-own order found =
          let ids : order.id ≡ id = found-id id order orders found in
          record {
            rests = ap (λ i. order_with i orders) ids ∙ found;
            own = (found-All (IsAsHeld owner slots side) id order orders found names.as_held slot held.held held.holds
                (and_from (eqb held.held.id order.id) (is_same_side held.held.side side) (eq-eqb held.held.id order.id (id_is ∙ sym ids)) held.on)).0;
          }

      with-slot : (then : Option Order) → IfSome then (RestsOwn owner orders)
          → ((other : ℕ) → is_ahead side other first ≡ false → is_ahead side other then ≡ false)
          → ((order : Order) → order_with id orders ≡ Some order → is_behind side last order.id ≡ true → is_ahead side order.id then ≡ false)
          → IsFirstTo owner slots side last orders (slot + 1) then
      with-slot then rests kept here = record {
        rests = rests;
        passed = λ at other order before holds on found behind. elim (cases_lt at slot) [
          | inl passed ↦ kept order.id (is.passed at other order passed holds on found behind)
          | inr later ↦
              let same : at ≡ slot = omega (arith, before, later) in
              let both : Some other ≡ Some held.held = sym holds ∙ ap (held_in slots) same ∙ held.holds in
              let ids : other.id ≡ id = ap (λ (o : Option Holding). id_or o) both ∙ id_is in
              here order (sym (ap (λ i. order_with i orders) ids) ∙ found) behind
        ];
      }
        where
          id_or : Option Holding → ℕ
          id_or None = 0
          id_or (Some h) = h.id

      found-step : (found : Option Order) → order_with id orders ≡ found → is_ahead side id first ≡ true
          → IsFirstTo owner slots side last orders (slot + 1) (option_or found first)
      found-step None none ahead = with-slot first is.rests (λ other behind. behind) (λ order some. absurd (let no : None ≡ Some order = sym none ∙ some in cc))
      found-step (Some order) some ahead =
          let ids : order.id ≡ id = found-id id order orders some in
          with-slot (Some order) (slot-own order some)
          (λ other behind. ahead-kept side other order first behind (ap (λ i. is_ahead side i first) ids ∙ ahead))
          (λ same found behind.
          let one : Some same ≡ Some order = sym found ∙ some in
          ap (λ i. precedes side i order.id) (found-id id same orders found ∙ sym ids) ∙ precedes-irreflexive side order.id)

      left-step : is_behind side last id && is_ahead side id first ≡ false → IsFirstTo owner slots side last orders (slot + 1) first
      left-step neither =
          with-slot first is.rests (λ other behind. behind) (λ order some behind.
          let ids : order.id ≡ id = found-id id order orders some in
          elim (cases_Bool (is_ahead side order.id first)) [
            | inl ahead ↦ absurd (both_ways (is_behind side last id && is_ahead side id first) neither
                (and_from (is_behind side last id) (is_ahead side id first) (ap (is_behind side last) (sym ids) ∙ behind) (ap (λ i. is_ahead side i first) (sym ids) ∙ ahead)))
            | inr other ↦ other
          ])

      first-step : IsFirstTo owner slots side last orders (slot + 1) (earlier side last orders first id)
      first-step =
          cond_both (is_behind side last id && is_ahead side id first) (option_or (order_with id orders) first) first (IsFirstTo owner slots side last orders (slot + 1))
          (λ yes. found-step (order_with id orders) refl (and_parts (is_behind side last id) (is_ahead side id first) yes).1) left-step

    pub first-more : DoSlotsNameOn owner slots side orders → (slot to id : ℕ) (first then : Option Order) → IsFirstTo owner slots side last orders slot first → slot < 128
        → is_set bits slot ≡ true → IsIdOf (held_in slots slot) id → then ≡ earlier side last orders first id → to ≤ 128 → AreClear bits (slot + 1) to
        → IsFirstTo owner slots side last orders to then
    first-more names slot to id first then is within set id_is now most clear =
        let held = holds-on side (held_in slots slot) (sym (are slot within) ∙ set) in
        first-skip (slot + 1) to then most clear
        (subst (IsFirstTo owner slots side last orders (slot + 1)) (sym now)
        (first-step names slot id first held (subst (λ h. IsIdOf h id) held.holds id_is) is))

  -- past all slots it comes first of all
  module _ (names : DoSlotsNameOn owner slots side orders) (long : length slots ≤ 128) (slot : ℕ) (past : 128 ≤ slot) (first : Option Order)
      (is : IsFirstTo owner slots side last orders slot first) where
    none-ahead : (order : Order) → IsHeldIn owner slots side order → StandsBehind owner side last order → IsFound orders order → StandsNotAhead owner side first order
    none-ahead order held behind found own =
        elim (cases_lt order.slot slot) [
          | inl below ↦ is.passed order.slot (order_holding side order) order below (held own) (is_same_side-refl side) found (behind own)
          | inr above ↦ absurd (let no : None ≡ Some (order_holding side order) = sym (get_or_past slots order.slot None (omega (arith, long, past, above))) ∙ held own in cc)
        ]

    all-ahead : (some : List Order) → All (IsHeldIn owner slots side) some → All (StandsBehind owner side last) some → All (IsFound orders) some
        → All (StandsNotAhead owner side first) some
    all-ahead [] held behind found = All-nil (StandsNotAhead owner side first)
    all-ahead (one ∷ some) held behind found =
        All-cons (StandsNotAhead owner side first) one some
        (none-ahead one (All-head (IsHeldIn owner slots side) one some held) (All-head (StandsBehind owner side last) one some behind) (All-head (IsFound orders) one some found))
        (all-ahead some (All-tail (IsHeldIn owner slots side) one some held) (All-tail (StandsBehind owner side last) one some behind) (All-tail (IsFound orders) one some found))

    pub first-of-all : All (StandsBehind owner side last) orders → IsFirstOwn owner side first orders
    first-of-all behind = record {
      rests = is.rests;
      ahead = all-ahead orders names.held behind (all-found side orders names.in_order);
    }

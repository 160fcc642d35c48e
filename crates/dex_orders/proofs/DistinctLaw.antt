-- No two slots hold one order, also after one slot changed.
use Rattle.std.proofs.Common.{◌≡◌, ◌≢◌, ℕ, ◌⊎◌, Bool, eqb, false, ◌&&◌, List, length, get_or, set, Option, Some, None, refl, sym, ap, ◌∙◌, arith, inl, inr}
use Rattle.std.proofs.lemmas.Bool.{cases_eq, cases_lt, eq-eqb, ne_eqb}
use Rattle.std.proofs.lemmas.Grind.{get_or-set_at}
use Rattle.std.proofs.lemmas.List.{get_or-set_other, set_past}
use Rattle.dex_types.specs.declared.terms.Side.{Side}
use Rattle.dex_types.specs.declared.terms.Side.TheVariants.{Bid, Ask}
use Rattle.dex_types.specs.Trader.{Holding}
use Rattle.dex_types.specs.Tokens.{is_same_side}
use Rattle.dex_orders.specs.OrdersAccount.{AreDistinct, HasNoOrder, hold_one}

-- ---- one order in two slots, looked at from either

eqb-sym : (a b : ℕ) → eqb a b ≡ eqb b a
eqb-sym a b =
    elim (cases_eq a b) [
      | inl same ↦ eq-eqb a b same ∙ sym (eq-eqb b a (sym same))
      | inr apart ↦ ne_eqb a b apart ∙ sym (ne_eqb b a (λ same. apart (sym same)))
    ]

is_same_side-sym : (a b : Side) → is_same_side a b ≡ is_same_side b a
is_same_side-sym Bid Bid = refl
is_same_side-sym Bid Ask = refl
is_same_side-sym Ask Bid = refl
is_same_side-sym Ask Ask = refl

hold_one-sym : (x y : Option Holding) → hold_one x y ≡ hold_one y x
hold_one-sym None None = refl
hold_one-sym None (Some b) = refl
hold_one-sym (Some a) None = refl
hold_one-sym (Some a) (Some b) =
    ap (λ (t : Bool). t && is_same_side b.side a.side) (eqb-sym b.id a.id)
    ∙ ap (λ (t : Bool). eqb a.id b.id && t) (is_same_side-sym b.side a.side)

-- ---- a slot changes

module _ (slots : List (Option Holding)) (slot : ℕ) (v : Option Holding) where
  -- what a place holds afterwards
  pub held_after : (k : ℕ) → (get_or (set slots slot v) k None ≡ get_or slots k None) ⊎ ((k ≡ slot) × (get_or (set slots slot v) k None ≡ v))
  held_after k =
      elim (cases_eq k slot) [
        | inl same ↦ elim (cases_lt slot (length slots)) [
          | inl lt ↦ inr (same, get_or-set_at slots slot k v None same lt)
          | inr past ↦ inl (ap (λ (l : List (Option Holding)). get_or l k None) (set_past slots slot v past))
        ]
        | inr apart ↦ inl (get_or-set_other slots slot k v None apart)
      ]

  set_distinct : AreDistinct slots → ((k : ℕ) → k ≢ slot → hold_one v (get_or slots k None) ≡ false) → AreDistinct (set slots slot v)
  set_distinct distinct apart i j lt =
      elim (held_after j) [
        | inl later ↦ elim (held_after i) [
          | inl earlier ↦ ap (λ x. hold_one x (get_or (set slots slot v) i None)) later ∙ ap (hold_one (get_or slots j None)) earlier ∙ distinct i j lt
          | inr earlier ↦
              let other : j ≢ slot = λ same. absurd (omega (arith, earlier.0, same)) in
              ap (λ x. hold_one x (get_or (set slots slot v) i None)) later ∙ ap (hold_one (get_or slots j None)) earlier.1
              ∙ hold_one-sym (get_or slots j None) v ∙ apart j other
        ]
        | inr later ↦ elim (held_after i) [
          | inl earlier ↦
              let other : i ≢ slot = λ same. absurd (omega (arith, later.0, same)) in
              ap (λ x. hold_one x (get_or (set slots slot v) i None)) later.1 ∙ ap (hold_one v) earlier ∙ apart i other
          | inr earlier ↦ absurd (omega (arith, later.0, earlier.0))
        ]
      ]

-- an order that no slot holds comes in
pub AreDistinct-add : (slots : List (Option Holding)) (slot : ℕ) (held : Holding) → AreDistinct slots → HasNoOrder held.id held.side slots
    → AreDistinct (set slots slot (Some held))
AreDistinct-add slots slot held distinct fresh = set_distinct slots slot (Some held) distinct (λ k apart. fresh k)

-- a slot becomes free
pub AreDistinct-remove : (slots : List (Option Holding)) (slot : ℕ) → AreDistinct slots → AreDistinct (set slots slot None)
AreDistinct-remove slots slot distinct = set_distinct slots slot None distinct (λ k apart. refl)

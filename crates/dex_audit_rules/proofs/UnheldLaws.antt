-- the first order of a side that its slot does not hold, order by order
use Rattle.std.proofs.Common.{◌≡◌, ℕ, ◌+◌, ◌<◌, Bool, true, false, ◌&&◌, not, cond, List, [], ◌∷◌, ◌++◌, length, get_or, take, Option, Some, None, refl, sym, ap, ◌∙◌}
use Rattle.std.specs.List.{filter}
use Rattle.std.proofs.lemmas.List.{take_more}
use Rattle.dex_types.specs.declared.addresses.Address.{Address}
use Rattle.dex_types.specs.declared.orders.Order.{Order}
use Rattle.dex_types.specs.declared.terms.Side.{Side}
use Rattle.dex_types.specs.Owed.{is_order_of}
use Rattle.dex_types.specs.Soundness.{order_holding}
use Rattle.dex_types.specs.Trader.{Holding}
use Rattle.dex_laws.specs.Places.{is_order_at}
use Rattle.dex_totals.specs.Held.{is_held}
use Rattle.dex_audit_rules.specs.Slots.{or_else, unheld}

pub or_else-none : (first : Option ℕ) → or_else first None ≡ first
or_else-none None = refl
or_else-none (Some first) = refl

pub or_else-assoc : (first second third : Option ℕ) → or_else (or_else first second) third ≡ or_else first (or_else second third)
or_else-assoc None second third = refl
or_else-assoc (Some first) second third = refl

or_else-cond : (test : Bool) (id : ℕ) (rest later : Option ℕ) → or_else (cond test (Some id) rest) later ≡ cond test (Some id) (or_else rest later)
or_else-cond true id rest later = refl
or_else-cond false id rest later = refl

unheld-append : (owner : Address) (slot : ℕ) (held : Option Holding) (side : Side) (xs ys : List Order)
    → unheld owner slot held side (xs ++ ys) ≡ or_else (unheld owner slot held side xs) (unheld owner slot held side ys)
unheld-append owner slot held side [] ys = refl
unheld-append owner slot held side (order ∷ xs) ys =
    let test : Bool = is_order_at owner slot order && not (is_held held (order_holding side order)) in
    ap (λ (o : Option ℕ). cond test (Some order.id) o) (unheld-append owner slot held side xs ys)
    ∙ sym (or_else-cond test order.id (unheld owner slot held side xs) (unheld owner slot held side ys))

-- one order more
pub unheld-more : (owner : Address) (slot : ℕ) (held : Option Holding) (side : Side) (orders : List Order) (i : ℕ) (d : Order) (before now after : Option ℕ) → i < length orders
    → now ≡ or_else before (unheld owner slot held side (take i orders)) → after ≡ or_else now (unheld owner slot held side (get_or orders i d ∷ []))
    → after ≡ or_else before (unheld owner slot held side (take (i + 1) orders))
unheld-more owner slot held side orders i d before now after lt told one =
    one ∙ ap (λ (o : Option ℕ). or_else o (unheld owner slot held side (get_or orders i d ∷ []))) told
    ∙ or_else-assoc before (unheld owner slot held side (take i orders)) (unheld owner slot held side (get_or orders i d ∷ []))
    ∙ ap (or_else before)
    (sym (ap (unheld owner slot held side) (take_more orders i d lt) ∙ unheld-append owner slot held side (take i orders) (get_or orders i d ∷ [])))

-- ---- one order

-- an order of another account, or for another slot, changes nothing
pub elsewhere : (owner : Address) (slot : ℕ) (held : Option Holding) (side : Side) (order : Order) (before : Option ℕ) → is_order_at owner slot order ≡ false
    → before ≡ or_else before (unheld owner slot held side (order ∷ []))
elsewhere owner slot held side order before not_here = sym (rw not_here (or_else-none before))

-- an order that is held, or after another, changes nothing
pub passed_over : (owner : Address) (slot : ℕ) (held : Option Holding) (side : Side) (order : Order) (before : Option ℕ)
    → (is_order_at owner slot order && not (is_held held (order_holding side order))) ≡ false → before ≡ or_else before (unheld owner slot held side (order ∷ []))
passed_over owner slot held side order before none = sym (rw none (or_else-none before))

pub noted_before : (owner : Address) (slot : ℕ) (held : Option Holding) (side : Side) (order : Order) (first : ℕ)
    → Some first ≡ or_else (Some first) (unheld owner slot held side (order ∷ []))
noted_before owner slot held side order first = refl

pub noted_now : (owner : Address) (slot : ℕ) (held : Option Holding) (side : Side) (order : Order)
    → (is_order_at owner slot order && not (is_held held (order_holding side order))) ≡ true → Some order.id ≡ or_else None (unheld owner slot held side (order ∷ []))
noted_now owner slot held side order noted = rw noted refl

-- ---- orders of other accounts

-- the first of an account's own orders is that of all
pub unheld-own : (owner : Address) (slot : ℕ) (held : Option Holding) (side : Side) (orders : List Order)
    → unheld owner slot held side (filter (is_order_of owner) orders) ≡ unheld owner slot held side orders
unheld-own owner slot held side [] = refl
unheld-own owner slot held side (order ∷ others) = by-owner (is_order_of owner order) refl (unheld-own owner slot held side others)
  where
    by-owner : (own : Bool) → is_order_of owner order ≡ own → unheld owner slot held side (filter (is_order_of owner) others) ≡ unheld owner slot held side others
        → unheld owner slot held side (cond own (order ∷ filter (is_order_of owner) others) (filter (is_order_of owner) others)) ≡ unheld owner slot held side (order ∷ others)
    by-owner true is rest = ap (λ (o : Option ℕ). cond (is_order_at owner slot order && not (is_held held (order_holding side order))) (Some order.id) o) rest
    by-owner false is rest = rest ∙ sym (rw is refl)

-- Rows in the order of a script, and one more of them.
use Rattle.std.proofs.Common.{◌≡◌, ◌∙◌, ℕ, ◌+◌, ◌<◌, ◌≤◌, ◌∷◌, [], ◌++◌, ◌==◌, false, List, All, ap, arith, get_or, length, length-append, max, ⊎_elim}
use Rattle.std.specs.List.{AllPairs}
use Rattle.std.proofs.lemmas.Bool.{cases_lt, ne_eqb}
use Rattle.std.proofs.lemmas.Grind.{common_steps}
use Rattle.std.proofs.lemmas.List.Elements.{All-head, All-nil, All-push, All-tail, All-weaker}
use Rattle.std.proofs.lemmas.List.Quantifiers.{all_pairs_push}
use Rattle.dex_types.specs.Accounts.{PlainAccounts}
use Rattle.dex_types.specs.Rows.{PlainRow}
use Rattle.dex_world.specs.Items.{Item, items_of}
use Rattle.dex_world.proofs.GroupLaws.{grouped-behind, grouped-one}
use Rattle.dex_script_types.specs.Facts.{AreLegs, HasNoThree, IsRowOf, lanes_of}

-- rows of a start, whose numbers never fall, of which two of one number are legs, and no three are of one
pub record AreInOrder (start : PlainAccounts) (rows : List PlainRow) : Type 0 where
  pub each : All (IsRowOf start) rows
  pub rising : AllPairs (λ (one other : PlainRow). one.number ≤ other.number) rows
  pub legs : AllPairs (λ (one other : PlainRow). one.number ≡ other.number → AreLegs one other) rows
  pub two : HasNoThree rows

pub no-rows-in-order : (start : PlainAccounts) → AreInOrder start []
no-rows-in-order start = record {
  each = All-nil (IsRowOf start);
  rising = λ i j d before within. absurd (omega arith);
  legs = λ i j d before within. absurd (omega arith);
  two = λ place row within. absurd (omega arith);
}

three-push : (rows : List PlainRow) (one : PlainRow) → HasNoThree rows
    → ((place : ℕ) (row : PlainRow) → place + 1 < length rows → (get_or rows place row).number < one.number) → HasNoThree (rows ++ one ∷ [])
three-push rows one none before = λ place row within.
    let low : get_or (rows ++ one ∷ []) place row ≡ get_or rows place row = grind (arith, common_steps) in
    ⊎_elim
    (λ old.
    let high : get_or (rows ++ one ∷ []) (place + 2) row ≡ get_or rows (place + 2) row = grind (arith, common_steps) in
    rw (low, high) (none place row old))
    (λ last.
    let high : get_or (rows ++ one ∷ []) (place + 2) row ≡ one = grind (arith, common_steps) in
    rw (low, high) (before place row (grind (arith, common_steps))))
    (cases_lt (place + 2) (length rows))

-- one more row: no row before it has a higher number, the last may be a leg with it, and the others have lower numbers
pub push-row : (start : PlainAccounts) (rows : List PlainRow) (one : PlainRow) → AreInOrder start rows → IsRowOf start one
    → All (λ (row : PlainRow). row.number ≤ one.number) rows → All (λ (row : PlainRow). row.number ≡ one.number → AreLegs row one) rows
    → ((place : ℕ) (row : PlainRow) → place + 1 < length rows → (get_or rows place row).number < one.number)
    → AreInOrder start (rows ++ one ∷ [])
push-row start rows one order of_start below legs before = record {
  each = All-push (IsRowOf start) rows one order.each of_start;
  rising = all_pairs_push (λ (a b : PlainRow). a.number ≤ b.number) rows one order.rising below;
  legs = all_pairs_push (λ (a b : PlainRow). a.number ≡ b.number → AreLegs a b) rows one order.legs legs;
  two = three-push rows one order.two before;
}

-- ---- lanes and items

pub lanes-more : (rows more : List PlainRow) (lane : ℕ) → lanes_of more ≡ max 1 (lane + 1) → lanes_of (rows ++ more) ≡ max (lanes_of rows) (lane + 1)
lanes-more [] more lane is = is
lanes-more (first ∷ rows) more lane is = ap (λ (n : ℕ). max (first.lane + 1) n) (lanes-more rows more lane is) ∙ omega arith

-- rows of one number after rows of lower ones are one item more
pub items-more : (rows : List PlainRow) (number : ℕ) (first : PlainRow) (others : List PlainRow) → All (λ (row : PlainRow). row.number < number) rows
    → All (λ (row : PlainRow). row.number ≡ number) (first ∷ others) → length (items_of (rows ++ first ∷ others)) ≡ length (items_of rows) + 1
items-more rows number first others below same =
    let key : PlainRow → ℕ = λ (row : PlainRow). row.number in
    let Same : PlainRow → Type 0 = λ (row : PlainRow). row.number ≡ number in
    let here : first.number ≡ number = All-head Same first others same in
    let apart : All (λ (x : PlainRow). All (λ (y : PlainRow). (x.number == y.number) ≡ false) (first ∷ others)) rows =
    All-weaker (λ (x : PlainRow). x.number < number) (λ (x : PlainRow). All (λ (y : PlainRow). (x.number == y.number) ≡ false) (first ∷ others))
    (λ x less.
    All-weaker Same (λ (y : PlainRow). (x.number == y.number) ≡ false) (λ y is. ne_eqb x.number y.number (λ e. omega (arith, less, is, e))) (first ∷ others) same)
    rows below in
    let of_first : All (λ (row : PlainRow). row.number ≡ first.number) others =
    All-weaker Same (λ (row : PlainRow). row.number ≡ first.number) (λ row is. omega (arith, is, here)) others (All-tail Same first others same) in
    let one : items_of (first ∷ others) ≡ record { first = first; others = others } ∷ [] = grouped-one key first others of_first in
    ap (λ (items : List Item). length items) (grouped-behind key rows (first ∷ others) apart)
    ∙ length-append (items_of rows) (items_of (first ∷ others))
    ∙ ap (λ (items : List Item). length (items_of rows) + length items) one

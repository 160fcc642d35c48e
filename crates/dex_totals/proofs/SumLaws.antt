-- sums, item by item
use Rattle.std.proofs.Common.{◌≡◌, ℕ, ◌+◌, ◌^◌, ◌<◌, ◌≤◌, Bool, true, false, ◌&&◌, cond, eqb, List, [], ◌∷◌, length, get_or, take, refl, sym, ap, ◌∙◌, arith}
use Rattle.std.proofs.lemmas.List.{length-take, take_more}
use Rattle.dex_types.specs.declared.orders.Order.{Order}
use Rattle.dex_types.specs.declared.terms.Side.{Side}
use Rattle.dex_types.specs.Soundness.{counts_order}
use Rattle.dex_types.specs.Tokens.{is_same_side}
use Rattle.dex_types.specs.Totals.{total}
use Rattle.dex_laws.proofs.TotalLaws.{total-append}
use Rattle.dex_sound.proofs.PlaceLaws.{is_same_side-refl}
use Rattle.dex_totals.specs.Sums.{capped}

pub total-more : {X : Type 0} (weight : X → ℕ) (xs : List X) (i : ℕ) (d : X) → i < length xs → total weight (take (i + 1) xs) ≡ total weight (take i xs) + weight (get_or xs i d)
total-more weight xs i d lt = omega (arith, ap (total weight) (take_more xs i d lt), total-append weight (take i xs) (get_or xs i d ∷ []))

-- ---- resting orders of an id

-- one where it is so
abbrev one : Bool → ℕ
one b = cond b 1 0

one-of : (b same : Bool) → same ≡ true → one (b && same) ≡ one b
one-of true same is = ap one is
one-of false same is = refl

-- of a side's orders the id alone tells which is counted
pub counts-id : (side : Side) (id client : ℕ) (order : Order) → counts_order side (record { id = id; side = side; client = client }) order ≡ one (eqb id order.id)
counts-id side id client order = one-of (eqb id order.id) (is_same_side side side) (is_same_side-refl side)

one-le : (b : Bool) → one b ≤ 1
one-le true = omega arith
one-le false = omega arith

counts-le : (side : Side) (id client : ℕ) (orders : List Order) → total (counts_order side (record { id = id; side = side; client = client })) orders ≤ length orders
counts-le side id client [] = omega arith
counts-le side id client (order ∷ orders) = omega (arith, counts-le side id client orders, counts-id side id client order, one-le (eqb id order.id))

pub counts-few : (side : Side) (id client : ℕ) (orders : List Order) (i : ℕ) → total (counts_order side (record { id = id; side = side; client = client })) (take i orders) ≤ i
counts-few side id client orders i = omega (arith, counts-le side id client (take i orders), length-take i orders)

-- ---- capped sums

pub capped-add : (sum amount : ℕ) → capped (capped sum + amount) ≡ capped (sum + amount)
capped-add sum amount = omega arith

pub capped-both : (sum amount : ℕ) → capped (capped sum + capped amount) ≡ capped (sum + amount)
capped-both sum amount = omega arith

pub capped-total : {X : Type 0} (weight : X → ℕ) (xs : List X) (i : ℕ) (d : X) (before after amount : ℕ) → i < length xs → before ≡ capped (total weight (take i xs))
    → amount ≡ capped (weight (get_or xs i d)) → after ≡ capped (before + amount) → after ≡ capped (total weight (take (i + 1) xs))
capped-total weight xs i d before after amount lt told one is =
    is ∙ ap (λ (n : ℕ). capped (n + amount)) told ∙ ap (λ (n : ℕ). capped (capped (total weight (take i xs)) + n)) one
    ∙ capped-both (total weight (take i xs)) (weight (get_or xs i d)) ∙ ap capped (sym (total-more weight xs i d lt))

pub capped-exact : (amount sum : ℕ) → amount ≡ sum → amount < 2 ^ 65 → amount ≡ capped sum
capped-exact amount sum is small = omega arith

-- Sums of owners: what more of one does.
use Rattle.std.proofs.Common.{ℕ, ◌≡◌, Bool, true, false, if◌then◌else◌, List, [], ◌∷◌, map, refl, sym, ap, ◌∙◌, arith}
use Rattle.dex_types.specs.declared.addresses.Address.{Address}
use Rattle.dex_types.specs.Addresses.{is_same}
use Rattle.dex_worth.specs.declared.amounts.TokenAmounts.{TokenAmounts}
use Rattle.dex_worth.specs.Amounts.{AreSums, added, both, capped_amounts, none, own, with_own}

-- amounts, one by one
abbrev pub pair : ℕ → ℕ → TokenAmounts
pair coin pc = record { coin = coin; pc = pc }

pub same-pair : {coin pc more most : ℕ} → coin ≡ more → pc ≡ most → pair coin pc ≡ pair more most
same-pair c p = λ i. pair (c i) (p i)

pub both-none : (amounts : TokenAmounts) → capped_amounts (both amounts none) ≡ capped_amounts amounts
both-none amounts = same-pair (omega arith) (omega arith)

-- more, added to a sum that is told, is told again
capped-sum : (one amounts more : TokenAmounts) → capped_amounts more ≡ capped_amounts amounts → capped_amounts (both (capped_amounts one) more) ≡ capped_amounts (both one amounts)
capped-sum one amounts more told =
    same-pair (omega (arith, ap (λ (a : TokenAmounts). a.coin) told)) (omega (arith, ap (λ (a : TokenAmounts). a.pc) told))

-- one sum
pub with-own : (owner of : Address) (exact amounts more : TokenAmounts) → capped_amounts more ≡ capped_amounts amounts
    → with_own owner more of (capped_amounts exact) ≡ capped_amounts (both exact (own of owner amounts))
with-own owner of exact amounts more told = by (is_same of owner)
  where
    by : (same : Bool) → (if same then capped_amounts (both (capped_amounts exact) more) else capped_amounts exact) ≡ capped_amounts (both exact (if same then amounts else none))
    by true = capped-sum exact amounts more told
    by false = sym (both-none exact)

-- all sums
pub sums-added : (exact : Address → TokenAmounts) (owner : Address) (amounts more : TokenAmounts) (owners : List Address) (before after : List TokenAmounts)
    → capped_amounts more ≡ capped_amounts amounts → AreSums exact owners before → after ≡ added owner more owners before
    → AreSums (λ of. both (exact of) (own of owner amounts)) owners after
sums-added exact owner amounts more owners before after told are is =
    is ∙ ap (added owner more owners) are ∙ each owners
  where
    each : (some : List Address) → added owner more some (map (λ (of : Address). capped_amounts (exact of)) some)
        ≡ map (λ (of : Address). capped_amounts (both (exact of) (own of owner amounts))) some
    each [] = refl
    each (of ∷ others) = rw (with-own owner of (exact of) amounts more told) rw (each others) refl

-- sums of what is the same for each owner
pub sums-agree : (exact other : Address → TokenAmounts) (owners : List Address) (sums : List TokenAmounts) → ((of : Address) → exact of ≡ other of) → AreSums exact owners sums → AreSums other owners sums
sums-agree exact other owners sums agree are = are ∙ λ i. map (λ (of : Address). capped_amounts (agree of i)) owners

-- How often an address stands in a list.
use Rattle.std.proofs.Common.{◌≡◌, ◌+◌, ◌∷◌, ◌++◌, ℕ, List, true, cond, ap}
use Rattle.std.proofs.lemmas.List.Sums.{sum_by-append, sum_by-cons}
use Rattle.dex_types.specs.declared.addresses.Address.{Address}
use Rattle.dex_types.specs.Addresses.{is_same}
use Rattle.dex_laws.proofs.TraderLaws.{is_same-true}
use Rattle.dex_state.specs.Addresses.{times}

-- 1 where two addresses are the same, else 0
abbrev pub one : Address → Address → ℕ
one address other = cond (is_same address other) 1 0

pub times-append : (address : Address) (xs ys : List Address) → times address (xs ++ ys) ≡ times address xs + times address ys
times-append address xs ys = sum_by-append (one address) xs ys

pub times-cons : (address x : Address) (xs : List Address) → times address (x ∷ xs) ≡ one address x + times address xs
times-cons address x xs = sum_by-cons (one address) x xs

pub times-same : (address other : Address) (xs : List Address) → is_same address other ≡ true → times address xs ≡ times other xs
times-same address other xs same = ap (λ (a : Address). times a xs) (is_same-true address other same)

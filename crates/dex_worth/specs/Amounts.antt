-- Amounts of both tokens, and sums of them for each of some owners.
use Rattle.std.specs.Prelude.{ℕ, ◌+◌, ◌≡◌, List, ◌∷◌, if◌then◌else◌, map}
use Rattle.dex_types.specs.declared.addresses.Address.{Address}
use Rattle.dex_types.specs.declared.terms.Side.{Side}
use Rattle.dex_types.specs.Addresses.{is_same}
use Rattle.dex_types.specs.Side.{by_side}
use Rattle.dex_totals.specs.Sums.{capped}
use Rattle.dex_worth.specs.declared.amounts.TokenAmounts.{TokenAmounts}

-- no amount of either token
abbrev pub none : TokenAmounts
none = record { coin = 0; pc = 0 }

-- both together
abbrev pub both : TokenAmounts → TokenAmounts → TokenAmounts
both one other = record { coin = one.coin + other.coin; pc = one.pc + other.pc }

-- as sums are reported: from 2^128 on as 2^128 - 1
abbrev pub capped_amounts : TokenAmounts → TokenAmounts
capped_amounts amounts = record { coin = capped amounts.coin; pc = capped amounts.pc }

-- an amount of what orders of a side lock: bids quote, asks base
abbrev pub on_side : Side → ℕ → TokenAmounts
on_side side amount = record { coin = by_side side 0 amount; pc = by_side side amount 0 }

-- amounts of an owner, where it is this one
abbrev pub own : Address → Address → TokenAmounts → TokenAmounts
own of owner amounts = if is_same of owner then amounts else none

-- a sum with more of an owner, where it is the sum of that owner
abbrev pub with_own : Address → TokenAmounts → Address → TokenAmounts → TokenAmounts
with_own owner more of sum = if is_same of owner then capped_amounts (both sum more) else sum

-- sums with more of an owner, wherever it stands among these
abbrev pub added : Address → TokenAmounts → List Address → List TokenAmounts → List TokenAmounts
added owner more (of ∷ owners) (sum ∷ sums) = with_own owner more of sum ∷ added owner more owners sums
added owner more _ sums = sums

-- the sums are these amounts of the owners, one for each
abbrev pub AreSums : (Address → TokenAmounts) → List Address → List TokenAmounts → Type 0
AreSums amounts owners sums = sums ≡ map (λ (owner : Address). capped_amounts (amounts owner)) owners

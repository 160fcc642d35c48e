-- Which of two orders of a side comes first, by price and age.
use Rattle.std.specs.Prelude.{ℕ, ◌≡◌, ◌<◌, ◌⊎◌}
use Rattle.dex_types.specs.declared.terms.Side.{Side}
use Rattle.dex_types.specs.declared.terms.Side.TheVariants.{Bid, Ask}
use Rattle.dex_types.specs.Side.{price_of, sequence_of}

-- the first price of the side is the better one for whoever meets it: a higher bid, a lower ask
abbrev pub IsBetter : Side → ℕ → ℕ → Type 0
IsBetter Bid price other = other < price
IsBetter Ask price other = price < other

-- the order of the first id comes before that of the second: its price is better, or it is older at the same price
abbrev pub ComesBefore : Side → ℕ → ℕ → Type 0
ComesBefore side id other =
    IsBetter side (price_of id) (price_of other) ⊎ ((price_of id ≡ price_of other) × (sequence_of side id < sequence_of side other))

-- Sides and tokens by each other.
use Rattle.std.specs.Prelude.{Bool, true, false}
use Rattle.dex_types.specs.declared.terms.Side.{Side}
use Rattle.dex_types.specs.declared.terms.Side.TheVariants.{Bid, Ask}
use Rattle.dex_types.specs.Side.{Token, Coin, Pc}

-- the two are one side
abbrev pub is_same_side : Side → Side → Bool
is_same_side Bid Bid = true
is_same_side Ask Ask = true
is_same_side _ _ = false

-- the side whose orders lock the token: asks lock base, bids lock quote
abbrev pub locking_side : Token → Side
locking_side Coin = Ask
locking_side Pc = Bid

-- Sides and tokens, order ids, which order stands first, when two orders cross, and what lots lock.
use Rattle.std.specs.Prelude.{ℕ, ◌+◌, ◌-◌, ◌*◌, ◌/◌, ◌%◌, ◌^◌, Bool, nat_lt, nat_le}
use Rattle.dex_types.specs.declared.terms.Lots.{Lots}
use Rattle.dex_types.specs.declared.terms.Side.{Side}
use Rattle.dex_types.specs.declared.terms.Side.TheVariants.{Bid, Ask}

-- the two tokens of a market: base (coin) and quote (pc)
pub data Token : Type 0 where
  Coin : Token
  Pc : Token

-- the first of two for a bid, the second for an ask
abbrev pub by_side : {A : Type 0} → Side → A → A → A
by_side Bid bid ask = bid
by_side Ask bid ask = ask

-- the first of two for base, the second for quote
abbrev pub by_token : {A : Type 0} → Token → A → A → A
by_token Coin coin pc = coin
by_token Pc coin pc = pc

-- the side that an order meets
abbrev pub opposite : Side → Side
opposite Bid = Ask
opposite Ask = Bid

-- the token that an order locks: a bid pays quote, an ask pays base
abbrev pub locked_token : Side → Token
locked_token Bid = Pc
locked_token Ask = Coin

-- the token that an order brings in
abbrev pub gained_token : Side → Token
gained_token Bid = Coin
gained_token Ask = Pc

-- the price in an order id, in quote lots per base lot
unfoldable pub price_of : ℕ → ℕ
price_of id = id / 2 ^ 64

-- the sequence number in an order id; a bid's id has 2^64 - 1 less it, so that older bids have larger ids
unfoldable pub sequence_of : Side → ℕ → ℕ
sequence_of Bid id = (2 ^ 64 - 1) - id % 2 ^ 64
sequence_of Ask id = id % 2 ^ 64

-- the id of an order with this price and sequence number
unfoldable pub id_of : Side → ℕ → ℕ → ℕ
id_of Bid price sequence = price * 2 ^ 64 + ((2 ^ 64 - 1) - sequence)
id_of Ask price sequence = price * 2 ^ 64 + sequence

-- the first id stands before the second in the book: bids by falling id, asks by rising id
abbrev pub precedes : Side → ℕ → ℕ → Bool
precedes Bid id other = nat_lt other id
precedes Ask id other = nat_lt id other

-- an order of this side and limit price crosses an opposite order of the price
abbrev pub crosses : Side → ℕ → ℕ → Bool
crosses Bid limit price = nat_le price limit
crosses Ask limit price = nat_le limit price

-- the native amount that lots at a price lock: quote for a bid, base for an ask
abbrev pub lock : Side → Lots → ℕ → ℕ → ℕ
lock Bid sizes price lots = price * lots * sizes.pc
lock Ask sizes price lots = lots * sizes.coin

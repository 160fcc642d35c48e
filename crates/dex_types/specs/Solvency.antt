-- When vaults cover what the market owes, and accounts add up.
use Rattle.std.specs.Prelude.{ℕ, ◌+◌, ◌≡◌, ◌<◌, ◌^◌, List, Some}
use Rattle.dex_types.specs.declared.addresses.Address.{Address}
use Rattle.dex_types.specs.Market.{Market, orders}
use Rattle.dex_types.specs.Owed.{order_lock, owed, leaving, kept, referred, is_order_of, is_event_of}
use Rattle.dex_types.specs.QueuedEvent.{QueuedEvent}
use Rattle.dex_types.specs.Side.{Token, by_token}
use Rattle.dex_types.specs.Tokens.{locking_side}
use Rattle.dex_types.specs.Totals.{total, weighed_where}
use Rattle.dex_types.specs.Trader.{Account, Trader, Open, Traders, balance, trader_at}

-- the native amount of a token in its vault
abbrev pub vault : Token → Market → ℕ
vault token m = by_token token m.coin_vault m.pc_vault

-- what a trader has free of a token
abbrev pub free_of : Token → Trader → ℕ
free_of token (Open account) = (balance token account).free
free_of token _ = 0

-- the referrer part of a trader
abbrev pub referrer_of : Trader → ℕ
referrer_of (Open account) = account.referrer
referrer_of _ = 0

-- what all traders have free of a token
abbrev pub all_free : Token → Traders → ℕ
all_free token traders = total (λ (entry : Address × Trader). free_of token entry.1) traders

-- the referrer parts of all traders
abbrev pub all_referrers : Traders → ℕ
all_referrers traders = total (λ (entry : Address × Trader). referrer_of entry.1) traders

-- what resting orders lock of a token
abbrev pub all_locked : Token → Market → ℕ
all_locked token m = total (order_lock (locking_side token) m.listing.sizes) (orders (locking_side token) m)

-- what pending events owe of a token
abbrev pub all_owed : Token → List QueuedEvent → ℕ
all_owed token events = total (owed token) events

-- what the market has taken of a token for itself and for referrers
abbrev pub earned : Token → Market → ℕ
earned token m = by_token token m.coin_fees (m.pc_fees + m.referrer_rebates)

-- each vault holds what traders have free, what resting orders lock, what pending events owe and what the market
-- earned; and the referrer rebates are the referrer parts of the accounts and of pending fills
pub record IsSolvent (m : Market) : Type 0 where
  pub vaults : (token : Token) → vault token m ≡ all_free token m.traders + all_locked token m + all_owed token m.events + earned token m
  pub referrers : m.referrer_rebates ≡ all_referrers m.traders + total referred m.events

-- what pending makers' fills are still to take of a token off their owners' totals
abbrev pub all_leaving : Token → List QueuedEvent → ℕ
all_leaving token events = total (leaving token) events

-- for each token the vault, with what pending makers' fills are still to take off totals, is below 2^64
abbrev pub IsBounded : Market → Type 0
IsBounded m = (token : Token) → vault token m + all_leaving token m.events < 2 ^ 64

-- what the resting orders of an owner lock of a token
abbrev pub own_locked : Token → Address → Market → ℕ
own_locked token owner m =
    total (weighed_where (is_order_of owner) (order_lock (locking_side token) m.listing.sizes)) (orders (locking_side token) m)

-- what is in an owner's total of a token for its pending events
abbrev pub own_kept : Token → Address → List QueuedEvent → ℕ
own_kept token owner events = total (weighed_where (is_event_of owner) (kept token)) events

-- each account's total of a token is what is free, what its resting orders lock, and what its pending events keep in it
abbrev pub AddsUp : Market → Type 0
AddsUp m =
    (owner : Address) (account : Account) → trader_at owner m.traders ≡ Some (Open account) → (token : Token) →
    (balance token account).total ≡ (balance token account).free + own_locked token owner m + own_kept token owner m.events

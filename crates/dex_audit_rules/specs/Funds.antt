-- What an audit finds of the funds of a market: the rules 7 to 11 and 13.
use Rattle.std.specs.Prelude.{ℕ, ◌+◌, ◌-◌, ◌^◌, List, ◌++◌, ◌==◌, nat_lt}
use Rattle.std.specs.List.{flat_map}
use Rattle.dex_types.specs.declared.addresses.Address.{Address}
use Rattle.dex_types.specs.declared.orders.Order.{Order}
use Rattle.dex_types.specs.declared.terms.Lots.{Lots}
use Rattle.dex_types.specs.declared.terms.Side.{Side}
use Rattle.dex_types.specs.declared.terms.Side.TheVariants.{Bid, Ask}
use Rattle.dex_types.specs.Accounts.{PlainMarketAccounts}
use Rattle.dex_types.specs.Market.{Market}
use Rattle.dex_types.specs.Owed.{kept, order_lock, referred}
use Rattle.dex_types.specs.Side.{Token, Coin, Pc, by_token}
use Rattle.dex_types.specs.Solvency.{all_free, all_leaving, all_locked, all_owed, all_referrers, earned, own_locked, vault}
use Rattle.dex_types.specs.Totals.{total, weighed_where}
use Rattle.dex_types.specs.Trader.{Account, Trader, balance}
use Rattle.dex_market.specs.MarketAccount.{MarketWords, market_words}
use Rattle.dex_accounts.specs.Decoded.{market_in}
use Rattle.dex_totals.specs.Held.{is_own_held}
use Rattle.dex_totals.specs.Sums.{capped}
use Rattle.dex_audit_rules.specs.declared.finding.Finding.{Finding}
use Rattle.dex_audit_rules.specs.Lists.{numbered, unless}
use Rattle.dex_audit_rules.specs.Slots.{of_open}

-- an amount in an account that is not the sum that it must be
abbrev pub differs : ℕ → Address → ℕ → ℕ → ℕ → List Finding
differs kind account place amount sum =
    unless (amount == capped sum) (record { kind = kind; account = account; place = place; found = amount; wanted = capped sum })

-- an amount that is not below 2^64
abbrev pub exceeds : ℕ → Address → ℕ → ℕ → List Finding
exceeds kind account place amount =
    unless (nat_lt amount (2 ^ 64)) (record { kind = kind; account = account; place = place; found = capped amount; wanted = 2 ^ 64 - 1 })

-- ---- 7: an account's totals are what is free, what its orders lock, and what its events keep

-- what is in an owner's total of a token for those of its pending events
abbrev pub held_kept : Token → Address → Market → ℕ
held_kept token owner m = total (weighed_where (is_own_held m.traders owner) (kept token)) m.events

-- what an account's total of a token has to be: what is free, what its resting orders lock, and what its pending events
-- keep
abbrev pub total_sum : Token → Market → Address → Account → ℕ
total_sum token m owner account = (balance token account).free + own_locked token owner m + held_kept token owner m

-- rule 7 for one token of an open account: its total is not that sum
abbrev pub total_off : Token → Market → Address → Account → List Finding
total_off token m owner account = differs 7 owner (by_token token 85 101) (balance token account).total (total_sum token m owner account)

-- rule 7 for both tokens of each open account of a market
abbrev pub totals_in : Market → List Finding
totals_in m =
    flat_map (λ (entry : Address × Trader). of_open (λ account. total_off Coin m entry.0 account ++ total_off Pc m entry.0 account) entry.1) m.traders

-- ---- 8, 9 and 10: deposits are free, resting and owed summed; a vault holds that and what the market earned; the
-- referrer rebates are the accounts' referrer parts and those of pending taker fills

-- what a market's deposits of a token have to be: what accounts have free, what resting orders lock, and what pending
-- events owe
abbrev pub deposited : Token → Market → ℕ
deposited token m = all_free token m.traders + all_locked token m + all_owed token m.events

-- the word of a token's deposits
abbrev pub deposits_word : Token → MarketWords → ℕ
deposits_word token words = by_token token words.coin_deposits_total words.pc_deposits_total

-- rule 8 for one token: the word of the market account is not that sum
abbrev pub deposits_off : Token → MarketWords → Market → List Finding
deposits_off token words m = differs 8 m.listing.address (by_token token 149 197) (deposits_word token words) (deposited token m)

-- rule 8 for both tokens of a market's accounts
abbrev pub deposits_in : PlainMarketAccounts → List Finding
deposits_in accounts =
    deposits_off Coin (market_words accounts.market) (market_in accounts) ++ deposits_off Pc (market_words accounts.market) (market_in accounts)

-- the address of a token's vault
abbrev pub vault_at : Token → Market → Address
vault_at token m = by_token token m.listing.coin_vault m.listing.pc_vault

-- rule 9 for one token: the vault does not hold the deposits and what the market earned
abbrev pub vault_off : Token → Market → List Finding
vault_off token m = differs 9 (vault_at token m) 64 (vault token m) (deposited token m + earned token m)

-- rule 9 for both vaults of a market
abbrev pub vaults_in : Market → List Finding
vaults_in m = vault_off Coin m ++ vault_off Pc m

-- rule 10 for a market: its referrer rebates are not the accounts' referrer parts with those of pending taker fills
abbrev pub rebates_in : Market → List Finding
rebates_in m = differs 10 m.listing.address 373 m.referrer_rebates (all_referrers m.traders + total referred m.events)

-- ---- 11: for each token the vault, with what pending makers' fills are still to take, is below 2^64

-- rule 11 for one token: the vault, with what pending makers' fills are still to take, is not below 2^64
abbrev pub beyond : Token → Market → List Finding
beyond token m = exceeds 11 (vault_at token m) 64 (vault token m + all_leaving token m.events)

-- rule 11 for both tokens of a market
abbrev pub beyond_in : Market → List Finding
beyond_in m = beyond Coin m ++ beyond Pc m

-- ---- 13: a resting order locks less than 2^64

-- rule 13 for one order, at its place on the side with this account: it locks 2^64 or more
abbrev pub too_large : Side → Lots → Address → ℕ → Order → List Finding
too_large side sizes account place order = exceeds 13 account place (order_lock side sizes order)

-- rule 13 for each resting order of a market, bids first
abbrev pub too_large_in : Market → List Finding
too_large_in m = numbered (too_large Bid m.listing.sizes m.listing.bids) 0 m.bids ++ numbered (too_large Ask m.listing.sizes m.listing.asks) 0 m.asks

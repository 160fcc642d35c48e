-- The addresses of all accounts.
use Rattle.std.specs.Prelude.{ℕ, Bool, List, [], ◌∷◌, ◌++◌, map, count_by}
use Rattle.std.specs.List.{flat_map, list_any}
use Rattle.dex_types.specs.declared.addresses.Address.{Address}
use Rattle.dex_types.specs.Accounts.{PlainAccount, PlainAccounts, PlainMarketAccounts}
use Rattle.dex_types.specs.Addresses.{is_same}
use Rattle.dex_market.specs.MarketAccount.{MarketTerms, market_words}

-- the address of an account
abbrev pub address_of : PlainAccount → Address
address_of account = account.address

-- the vaults, queues and sides that a market's account names, in their order
abbrev pub parts_of : MarketTerms → List Address
parts_of terms = terms.coin_vault ∷ terms.pc_vault ∷ terms.req_q ∷ terms.event_q ∷ terms.bids ∷ terms.asks ∷ []

-- a market and its parts
abbrev pub market_addresses : PlainMarketAccounts → List Address
market_addresses market = market.address ∷ parts_of (market_words market.market).terms

-- every address of a market: its own, those of its vaults, queues and sides, and its open-orders accounts'
abbrev pub all_of_market : PlainMarketAccounts → List Address
all_of_market market = market_addresses market ++ map address_of market.orders

-- every address: of the mints, of the wallets, and of each market
abbrev pub addresses_of : PlainAccounts → List Address
addresses_of accounts =
    map address_of accounts.mints ++ (map address_of accounts.wallets ++ flat_map all_of_market accounts.markets)

-- how often an address stands in a list
abbrev pub times : Address → List Address → ℕ
times address addresses = count_by (is_same address) addresses

-- a mint has this address
abbrev pub is_mint : PlainAccounts → Address → Bool
is_mint accounts address = list_any (λ (mint : PlainAccount). is_same address mint.address) accounts.mints

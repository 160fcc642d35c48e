-- What earlier rows declared, and what one more row changes of it.
use Rattle.std.specs.Prelude.{ℕ, Bool, ◌+◌, List, [], ◌∷◌, length, Option}
use Rattle.std.specs.List.{list_any}
use Rattle.dex_fields.specs.Bytes.{number_in, with_number}
use Rattle.dex_fields.specs.declared.mint.TheConstants.{SUPPLY}
use Rattle.dex_types.specs.declared.addresses.Address.{Address}
use Rattle.dex_types.specs.Accounts.{PlainAccount, PlainMarketAccounts}
use Rattle.dex_types.specs.Addresses.{is_same}
use Rattle.dex_make.specs.declared.parts.MarketPart.TheVariants.{CoinVault, PcVault, RequestQueue, EventQueue, Bids, Asks, VaultOwner}
use Rattle.dex_make.specs.Derived.{derived}
use Rattle.dex_token.specs.MintAccount.{MintWords, mint_words}
use Rattle.dex_dump.specs.Reading.{is_among}
use Rattle.dex_script_types.specs.Firsts.{first_of, with_first}

-- what the first mint of an address says
abbrev pub mint_at : Address → List PlainAccount → Option MintWords
mint_at address mints = first_of (λ (mint : PlainAccount). is_same address mint.address) (λ mint. mint_words mint.bytes) mints

-- how many open-orders accounts the first market of an address has
abbrev pub orders_at : Address → List PlainMarketAccounts → Option ℕ
orders_at address markets =
    first_of (λ (market : PlainMarketAccounts). is_same address market.address) (λ market. length market.orders) markets

-- the addresses that a market row declares: the market's, and those of its vaults, queues, sides and the vaults' owner
abbrev pub made_addresses : Address → List Address
made_addresses market =
    market ∷ derived market CoinVault ∷ derived market PcVault ∷ derived market RequestQueue ∷ derived market EventQueue
    ∷ derived market Bids ∷ derived market Asks ∷ derived market VaultOwner ∷ []

-- one of these addresses is taken
abbrev pub is_any_among : List Address → List Address → Bool
is_any_among new taken = list_any (λ address. is_among address taken) new

-- the bytes of a mint with so much more supply
abbrev pub raised : ℕ → List ℕ → List ℕ
raised more bytes = with_number bytes SUPPLY (number_in bytes SUPPLY + more)

-- the first mint of an address has so much more supply
abbrev pub with_supply : Address → ℕ → List PlainAccount → List PlainAccount
with_supply address more mints =
    with_first (λ (mint : PlainAccount). is_same address mint.address) (λ mint. record mint { bytes = raised more mint.bytes }) mints

-- The accounts that the rows of a dump have declared so far, what a further row may say, and what it adds.
use Rattle.std.specs.Prelude.{ℕ, Bool, true, false, not, ◌&&◌, nat_lt, if◌then◌else◌, List, [], ◌∷◌, ◌++◌, length, Option, Some, None}
use Rattle.std.specs.List.{list_any}
use Rattle.dex_types.specs.declared.addresses.Address.{Address}
use Rattle.dex_types.specs.Accounts.{PlainAccount, PlainAccounts, PlainMarketAccounts}
use Rattle.dex_types.specs.Addresses.{is_same}
use Rattle.dex_types.specs.declared.limits.Limits.{Limits}
use Rattle.dex_state.specs.Addresses.{is_mint, market_addresses}
use Rattle.dex_dump_rows.specs.Lines.{PlainLine}
use Rattle.dex_dump_rows.specs.Lines.PlainLine.{Mint, Srm, Msrm, Wallet, Market, Orders, End}

-- the accounts so far, every address that is taken: those that rows declare, and those of each market's vaults, queues
-- and sides; and how much is read
pub record PlainReading : Type 0 where
  pub accounts : PlainAccounts
  pub taken : List Address
  pub limits : Limits

-- no accounts
abbrev pub no_accounts : PlainAccounts
no_accounts = record { mints = []; srm = None; msrm = None; wallets = []; markets = [] }

-- before the first account
abbrev pub start : Limits → PlainReading
start limits = record { accounts = no_accounts; taken = []; limits = limits }

-- an address is one of these
abbrev pub is_among : Address → List Address → Bool
is_among address addresses = list_any (is_same address) addresses

-- ---- what a row may say

-- an address that is not taken, and a list with room for one more
abbrev pub is_new : PlainReading → Address → ℕ → ℕ → Bool
is_new reading address count limit = not (is_among address reading.taken) && nat_lt count limit

-- a mint may get this name (SRM or MSRM): no mint has it yet, the mint is declared, and it has not the other name
abbrev pub is_name : PlainAccounts → Address → Option Address → Option Address → Bool
is_name accounts mint (Some named) other = false
is_name accounts mint None None = is_mint accounts mint
is_name accounts mint None (Some other) = is_mint accounts mint && not (is_same mint other)

-- the market of an address has room for one more open-orders account, of so many that a market may have
abbrev pub has_room : ℕ → Address → List PlainMarketAccounts → Bool
has_room most address [] = false
has_room most address (market ∷ markets) =
    if is_same address market.address then nat_lt (length market.orders) most else has_room most address markets

-- a row declares no address twice, names what earlier rows declare, and passes no limit
abbrev pub is_allowed : PlainReading → PlainLine → Bool
is_allowed reading (Mint mint) = is_new reading mint.address (length reading.accounts.mints) reading.limits.mints
is_allowed reading (Srm mint) = is_name reading.accounts mint reading.accounts.srm reading.accounts.msrm
is_allowed reading (Msrm mint) = is_name reading.accounts mint reading.accounts.msrm reading.accounts.srm
is_allowed reading (Wallet wallet) = is_new reading wallet.address (length reading.accounts.wallets) reading.limits.wallets
is_allowed reading (Market market) = is_new reading market.address (length reading.accounts.markets) reading.limits.markets
is_allowed reading (Orders market account) =
    not (is_among account.address reading.taken) && has_room reading.limits.orders market reading.accounts.markets
is_allowed reading End = true

-- ---- what it adds

-- one more open-orders account of the market with this address
abbrev pub with_orders : Address → PlainAccount → List PlainMarketAccounts → List PlainMarketAccounts
with_orders address account [] = []
with_orders address account (market ∷ markets) =
    if is_same address market.address
    then record market { orders = market.orders ++ account ∷ [] } ∷ markets
    else market ∷ with_orders address account markets

-- the accounts with what a line adds
abbrev pub with_line : PlainAccounts → PlainLine → PlainAccounts
with_line accounts (Mint mint) = record accounts { mints = accounts.mints ++ mint ∷ [] }
with_line accounts (Srm mint) = record accounts { srm = Some mint }
with_line accounts (Msrm mint) = record accounts { msrm = Some mint }
with_line accounts (Wallet wallet) = record accounts { wallets = accounts.wallets ++ wallet ∷ [] }
with_line accounts (Market market) = record accounts { markets = accounts.markets ++ market ∷ [] }
with_line accounts (Orders market account) = record accounts { markets = with_orders market account accounts.markets }
with_line accounts End = accounts

-- the addresses that a line takes
abbrev pub taken_by : PlainLine → List Address
taken_by (Mint mint) = mint.address ∷ []
taken_by (Wallet wallet) = wallet.address ∷ []
taken_by (Market market) = market_addresses market
taken_by (Orders market account) = account.address ∷ []
taken_by _ = []

-- the reading after a line
abbrev pub after_line : PlainReading → PlainLine → PlainReading
after_line reading line =
    record reading { accounts = with_line reading.accounts line; taken = reading.taken ++ taken_by line }

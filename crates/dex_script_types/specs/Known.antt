-- Whether an account or a market is among those with which a script starts.
use Rattle.std.specs.Prelude.{Bool, true, List, Option, Some, None}
use Rattle.std.specs.List.{list_any}
use Rattle.dex_types.specs.declared.addresses.Address.{Address}
use Rattle.dex_types.specs.Accounts.{PlainAccount, PlainMarketAccounts}
use Rattle.dex_types.specs.Addresses.{is_same}

-- an account has this address
abbrev pub has_account : Address → List PlainAccount → Bool
has_account address accounts = list_any (λ (account : PlainAccount). is_same address account.address) accounts

-- a market has this address
abbrev pub has_market : Address → List PlainMarketAccounts → Bool
has_market address markets = list_any (λ (market : PlainMarketAccounts). is_same address market.address) markets

-- a role names no wallet, or one that is declared
abbrev pub is_known_role : List PlainAccount → Option Address → Bool
is_known_role wallets None = true
is_known_role wallets (Some address) = has_account address wallets

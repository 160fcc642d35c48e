-- The account that a row names first.
use Rattle.std.specs.Prelude.{◌≡◌, ℕ, List, [], ◌∷◌, Option, Some, None}
use Rattle.dex_types.specs.declared.addresses.Address.{Address}
use Rattle.dex_types.specs.Accounts.{PlainAccount}
use Rattle.dex_types.specs.Requests.{Party, open_party, party_of}
use Rattle.dex_orders.specs.OrdersAccount.{IsOpen, account_of}
use Rattle.dex_orders.specs.StandsFor.{trader_of, traders_of}
use Rattle.dex_accounts.specs.Owners.{bytes_at}

-- an account by its address and its bytes
abbrev pub account_by : Address → List ℕ → PlainAccount
account_by address bytes = record { address = address; bytes = bytes }

-- the party that an open account is, by its address and its bytes
abbrev pub party_by : Address → List ℕ → Party
party_by address bytes = record { address = address; account = account_of bytes }

-- the bytes at an address, as an account
abbrev pub account_with : Address → Option (List ℕ) → Option PlainAccount
account_with address None = None
account_with address (Some bytes) = Some (account_by address bytes)

-- of these accounts the one that a row names first
abbrev pub named_in : List Address → List PlainAccount → Option PlainAccount
named_in [] accounts = None
named_in (address ∷ others) accounts = account_with address (bytes_at address accounts)

-- the party that an account is, where it is open
abbrev pub party_in : Option PlainAccount → Option Party
party_in None = None
party_in (Some account) = open_party account.address (Some (trader_of account.bytes))

-- the account at this address, with these bytes, is the one that is named first, and open
pub record IsActing (named : List Address) (accounts : List PlainAccount) (address : Address) (bytes : List ℕ) : Type 0 where
  pub accepted : IsOpen bytes
  pub first : named_in named accounts ≡ Some (account_by address bytes)
  pub party : party_of named (traders_of accounts) ≡ Some (party_by address bytes)

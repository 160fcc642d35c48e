-- The account of an address among the open-orders accounts of a market.
use Rattle.std.specs.Prelude.{◌≡◌, ℕ, ◌<◌, true, false, List, [], ◌∷◌, Option, Some, None, length, slice_index_or, if◌then◌else◌}
use Rattle.dex_types.specs.declared.addresses.Address.{Address}
use Rattle.dex_types.specs.Accounts.{PlainAccount}
use Rattle.dex_types.specs.Addresses.{is_same}
use Rattle.dex_orders.specs.OrdersAccount.{market_of}

-- the bytes of the account of an address
abbrev pub bytes_at : Address → List PlainAccount → Option (List ℕ)
bytes_at address [] = None
bytes_at address (account ∷ others) = if is_same address account.address then Some account.bytes else bytes_at address others

-- the accounts with other bytes in the one of an address
abbrev pub changed_at : Address → (List ℕ → List ℕ) → List PlainAccount → List PlainAccount
changed_at address change [] = []
changed_at address change (account ∷ others) =
    if is_same address account.address
    then record { address = account.address; bytes = change account.bytes } ∷ others
    else account ∷ changed_at address change others

-- the first account of the address stands at this place
pub record IsFirst (address : Address) (accounts : List PlainAccount) (place : ℕ) : Type 0 where
  pub within : place < length accounts
  pub here : (default : PlainAccount) → is_same address (slice_index_or accounts place default).address ≡ true
  pub before : (earlier : ℕ) → earlier < place → (default : PlainAccount) → is_same address (slice_index_or accounts earlier default).address ≡ false

-- an account's address, and the market that stands in it
abbrev pub named_in : PlainAccount → Address × Address
named_in account = (account.address, market_of account.bytes)

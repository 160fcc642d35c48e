-- Open-orders accounts one after another in one list of bytes.
use Rattle.std.specs.Prelude.{◌≡◌, ◌≤◌, Some, ℕ, ◌+◌, ◌*◌, ◌/◌, ◌++◌, zero, suc, List, [], ◌∷◌, length, take, drop}
use Rattle.dex_types.specs.declared.addresses.Address.{Address}
use Rattle.dex_types.specs.Accounts.{PlainAccount}
use Rattle.dex_accounts.specs.Owners.{bytes_at, changed_at}

-- the account that a record is: its address, and then its data
abbrev pub account_in : List ℕ → PlainAccount
account_in bytes = record { address = record { 0 = take 32 bytes }; bytes = drop 32 bytes }

-- this many accounts from the front
abbrev pub accounts_from : ℕ → List ℕ → List PlainAccount
accounts_from zero bytes = []
accounts_from (suc count) bytes = account_in (take 3260 bytes) ∷ accounts_from count (drop 3260 bytes)

-- the accounts
unfoldable pub accounts_in : List ℕ → List PlainAccount
accounts_in bytes = accounts_from (length bytes / 3260) bytes

-- the record at a place
abbrev pub record_in : ℕ → List ℕ → List ℕ
record_in place bytes = take 3260 (drop (3260 * place) bytes)

-- the bytes with other data where some begins
abbrev pub with_data : ℕ → List ℕ → List ℕ → List ℕ
with_data at written bytes = take at bytes ++ (written ++ drop (at + 3228) bytes)

-- the data of the account of this address begins here, and other data there are that account's
pub record IsDataAt (address : Address) (bytes : List ℕ) (at : ℕ) : Type 0 where
  pub within : at + 3228 ≤ length bytes
  pub found : bytes_at address (accounts_in bytes) ≡ Some (take 3228 (drop at bytes))
  pub changed : (written : List ℕ) → length written ≡ 3228
      → accounts_in (with_data at written bytes) ≡ changed_at address (λ old. written) (accounts_in bytes)

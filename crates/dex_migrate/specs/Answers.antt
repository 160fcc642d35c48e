-- What migrating accounts answers.
use Rattle.std.specs.Prelude.{◌≡◌, ℕ, None, Some, Result, Ok, Err}
use Rattle.dex_migrate.specs.declared.faults.MigrateError.{MigrateError}
use Rattle.dex_migrate.specs.declared.faults.MigrateError.TheVariants.{TooSmall, NoMemory}
use Rattle.dex_migrate.specs.Migrated.{AreMigrated}
use Rattle.dex_migrate.specs.TooSmall.{first_fault}
use Rattle.dex_types.specs.declared.account_bytes.Accounts.{Accounts}
use Rattle.dex_types.specs.Accounts.{PlainAccounts, accounts_of}

-- the migrated accounts where all fits, else the first that does not; or memory is wanting
abbrev pub Answers : ℕ → ℕ → PlainAccounts → Result Accounts MigrateError → Type 0
Answers nodes events old (Ok migrated) = (first_fault nodes events old.markets ≡ None) × AreMigrated nodes events old (accounts_of migrated)
Answers nodes events old (Err (TooSmall fault)) = first_fault nodes events old.markets ≡ Some fault
Answers nodes events old (Err NoMemory) = Unit {0}

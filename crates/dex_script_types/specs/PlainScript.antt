-- A script.
use Rattle.std.specs.Prelude.{ℕ, List, [], None}
use Rattle.dex_types.specs.declared.terms.Program.{Program}
use Rattle.dex_types.specs.declared.terms.Program.TheVariants.{Serum}
use Rattle.dex_types.specs.Accounts.{PlainAccounts}
use Rattle.dex_types.specs.Rows.{PlainRow}
use Rattle.dex_types.specs.declared.limits.Limits.{Limits}

-- what a script says: the accounts with which it starts, its instruction rows, how many lanes it has, and its program;
-- and the limits within which it was read
pub record PlainScript : Type 0 where
  pub start : PlainAccounts
  pub rows : List PlainRow
  pub lanes : ℕ
  pub program : Program
  pub limits : Limits

-- a script of these accounts without rows
abbrev pub without_rows : Limits → PlainAccounts → PlainScript
without_rows limits start = record { start = start; rows = []; lanes = 1; program = Serum; limits = limits }

-- no accounts, with which a script without a dump begins
abbrev pub no_accounts : PlainAccounts
no_accounts = record { mints = []; srm = None; msrm = None; wallets = []; markets = [] }

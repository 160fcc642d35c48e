-- What the ledgers of the command `worth` hold of a script's parts.
use Rattle.std.specs.Prelude.{◌≡◌, List, Option}
use Rattle.dex_types.specs.declared.addresses.Address.{Address}
use Rattle.dex_types.specs.declared.movements.Movement.{Movement}
use Rattle.dex_types.specs.Accounts.{PlainAccounts}
use Rattle.dex_state.specs.Outcomes.{PlainOutcome}
use Rattle.dex_script_types.specs.PlainScript.{PlainScript}
use Rattle.dex_replay.specs.EntryCalls.{role_told}
use Rattle.dex_worth.specs.Ledgers.{AreLedgersOf}
use Rattle.dex_worth.specs.declared.ledger.Ledger.{Ledger}

-- of these last accounts an entry tells the same wallets and mints as of the first
pub record SeesAlike (first last : PlainAccounts) : Type 0 where
  pub roles : (moves : List Movement) (role : Option Address)
      → role_told last.wallets moves role ≡ role_told first.wallets moves role
  pub srm : last.srm ≡ first.srm
  pub msrm : last.msrm ≡ first.msrm

-- the ledgers hold what the journals tell, and so goes on what starts with the accounts that are left
pub record HasHeard (ledgers : List Ledger) (script : PlainScript) (outcome : PlainOutcome) : Type 0 where
  pub ledgers_are : AreLedgersOf script ledgers outcome
  pub sees : SeesAlike script.start outcome.accounts

-- A script as far as its rows are read.
use Rattle.std.specs.Prelude.{◌≡◌, ℕ, ℤ, ◌-◌, ◌<◌, ◌≤◌, ◌^◌, pos, Bool, true, false, List, [], All, length}
use Rattle.dex_types.specs.declared.addresses.Address.{Address}
use Rattle.dex_types.specs.Accounts.{PlainAccounts}
use Rattle.dex_types.specs.declared.limits.Limits.{Limits}
use Rattle.dex_types.specs.Rows.{PlainRow}
use Rattle.dex_state.specs.Addresses.{addresses_of}
use Rattle.dex_world.specs.Items.{items_of}
use Rattle.dex_script_types.specs.Facts.{AreRows, HasNoSwap}
use Rattle.dex_script_types.specs.PlainScript.{PlainScript, no_accounts, without_rows}

-- the script so far, with every address that is taken, the clock of the next instruction row, whether no row stands
-- there but those of a dump, whether setup rows come too late: after a dump or an instruction row; how many instruction
-- rows there are, where a swap is one; and whether the script is to act in batches
pub record PlainDraft : Type 0 where
  pub script : PlainScript
  pub taken : List Address
  pub clock : ℤ
  pub is_first : Bool
  pub is_late : Bool
  pub items : ℕ
  pub batch : Bool

-- before the first row of a script without a dump
abbrev pub no_rows : Limits → Bool → PlainDraft
no_rows limits batch = record {
  script = without_rows limits no_accounts;
  taken = [];
  clock = pos 0;
  is_first = true;
  is_late = false;
  items = 0;
  batch = batch;
}

-- after a dump: its accounts are there, and setup rows come too late
abbrev pub behind_dump : Limits → Bool → PlainAccounts → PlainDraft
behind_dump limits batch accounts = record (no_rows limits batch) {
  script = without_rows limits accounts;
  taken = addresses_of accounts;
  is_late = true;
}

-- what holds of a script so far, whose next row has this number: its rows are in order, and with lower numbers
pub record IsGood (number : ℕ) (draft : PlainDraft) : Type 0 where
  pub rows : AreRows draft.script
  pub below : All (λ (one : PlainRow). one.number < number) draft.script.rows
  pub quiet : draft.is_late ≡ false → draft.script.rows ≡ []
  pub items : draft.items ≡ length (items_of draft.script.rows)
  pub single : draft.batch ≡ true → HasNoSwap draft.script.rows
  pub small : number ≤ 2 ^ 32 - 1

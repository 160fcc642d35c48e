-- What entries tell of both tokens at once.
use Rattle.std.specs.Prelude.{ℕ, ◌≡◌, Option, Some, None, List, if◌then◌else◌}
use Rattle.dex_types.specs.declared.addresses.Address.{Address}
use Rattle.dex_types.specs.declared.replies.Reply.{Reply}
use Rattle.dex_types.specs.declared.terms.Side.{Side}
use Rattle.dex_types.specs.Side.{Coin, Pc}
use Rattle.dex_types.specs.Totals.{total}
use Rattle.dex_history.specs.Journal.{Call}
use Rattle.dex_eager.specs.Worth.{is_first}
use Rattle.dex_eager.specs.Worth as worth
use Rattle.dex_worth.specs.declared.amounts.TokenAmounts.{TokenAmounts}
use Rattle.dex_worth.specs.declared.entries.Moved.{Moved}
use Rattle.dex_worth.specs.Amounts.{capped_amounts, none, own, with_own}
use Rattle.dex_replay.specs.Told.{entering, told_in, told_out}

-- what enters the vaults where a new order of this side took so much from its wallet
abbrev pub entered : Option Side → ℕ → TokenAmounts
entered side debits = record { coin = (entering side debits).coin_in; pc = (entering side debits).pc_in }

-- what a reply tells of funds that were settled out
abbrev pub settled_by : Reply → TokenAmounts
settled_by reply = record { coin = worth.settled_in Coin reply; pc = worth.settled_in Pc reply }

-- what these calls tell of deposits for an account
abbrev pub all_in : List Call → Address → TokenAmounts
all_in calls owner = record { coin = total (told_in Coin owner) calls; pc = total (told_in Pc owner) calls }

-- what they tell of funds that were settled out to it
abbrev pub all_out : List Call → Address → TokenAmounts
all_out calls owner = record { coin = total (told_out Coin owner) calls; pc = total (told_out Pc owner) calls }

-- amounts of the account that a row names first, where it is this one
abbrev pub for_first : Address → List Address → TokenAmounts → TokenAmounts
for_first owner named amounts = if is_first owner named then amounts else none

-- what was moved for an account by deposits
abbrev pub deposited_in : Address → Option Moved → TokenAmounts
deposited_in owner None = none
deposited_in owner (Some moved) = own owner moved.owner moved.deposited

-- what was moved for it by settling
abbrev pub settled_in : Address → Option Moved → TokenAmounts
settled_in owner None = none
settled_in owner (Some moved) = own owner moved.owner moved.settled

-- what a call tells of deposits for an account
abbrev pub one_in : Call → Address → TokenAmounts
one_in call owner = record { coin = told_in Coin owner call; pc = told_in Pc owner call }

-- what it tells of funds that were settled out to it
abbrev pub one_out : Call → Address → TokenAmounts
one_out call owner = record { coin = told_out Coin owner call; pc = told_out Pc owner call }

-- just what a call tells was moved
pub record AreMoved (call : Call) (moved : Option Moved) : Type 0 where
  pub deposited : (owner : Address) → deposited_in owner moved ≡ one_in call owner
  pub settled : (owner : Address) → settled_in owner moved ≡ one_out call owner

-- with more, where that was moved for the same account
abbrev pub with_moved : Moved → Moved → Moved
with_moved more account = record account {
  deposited = with_own more.owner more.deposited account.owner account.deposited;
  settled = with_own more.owner more.settled account.owner account.settled;
}

-- all that these calls moved for an account; sums stop at 2^128 - 1
abbrev pub moved_told : List Call → Address → Moved
moved_told calls owner = record {
  owner = owner;
  deposited = capped_amounts (all_in calls owner);
  settled = capped_amounts (all_out calls owner);
}

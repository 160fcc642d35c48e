-- Accounts of a market that pays at once: what came in for each, and what it paid.
use Rattle.std.specs.Prelude.{ℕ, pos, ◌+◌, ◌-ℤ◌, ◌≤◌, List, Option, Some, None, if◌then◌else◌}
use Rattle.std.specs.List.{All}
use Rattle.dex_types.specs.declared.addresses.Address.{Address}
use Rattle.dex_types.specs.declared.terms.Side.{Side}
use Rattle.dex_types.specs.declared.terms.Side.TheVariants.{Bid, Ask}
use Rattle.dex_types.specs.Addresses.{is_same}
use Rattle.dex_eager.specs.Worth.{Worth}
use Rattle.dex_worth.specs.Amounts as amounts
use Rattle.dex_worth.specs.Rows.{plain_worth}
use Rattle.dex_worth.specs.declared.amounts.TokenAmounts.{TokenAmounts}
use Rattle.dex_worth.specs.declared.table.Worth as declared
use Rattle.dex_eager_market.specs.declared.accounts.Account.{Account}
use Rattle.dex_eager_market.specs.declared.accounts.Change.{Change}

-- what a change is worth: what came in, less what was paid
abbrev pub worth_of : Change → Worth
worth_of change = record {
  coin = pos change.gained.coin -ℤ pos change.paid.coin;
  pc = pos change.gained.pc -ℤ pos change.paid.pc;
}

-- an account and its worth
abbrev pub entry_of : Account → Address × Worth
entry_of account = (account.address, worth_of account.total)

-- amounts up to a bound
pub record AreUpTo (bound : ℕ) (sums : TokenAmounts) : Type 0 where
  pub coin : sums.coin ≤ bound
  pub pc : sums.pc ≤ bound

-- amounts up to a bound came in and were paid
pub record IsSmall (bound : ℕ) (change : Change) : Type 0 where
  pub gained : AreUpTo bound change.gained
  pub paid : AreUpTo bound change.paid

-- so of an account
abbrev pub IsWithin : ℕ → Account → Type 0
IsWithin bound account = IsSmall bound account.total

-- what came in for each account and was paid by it grows by this much at most
abbrev pub Grows : ℕ → List Account → List Account → Type 0
Grows more before after = (bound : ℕ) → All (IsWithin bound) before → All (IsWithin (bound + more)) after

-- what a trade of so much base and quote changes for who buys the base (a bid), or sells it (an ask)
abbrev pub traded : Side → ℕ → ℕ → Change
traded Bid base pc = record { gained = record { coin = base; pc = 0 }; paid = record { coin = 0; pc = pc } }
traded Ask base pc = record { gained = record { coin = 0; pc = pc }; paid = record { coin = base; pc = 0 } }

-- both changes together
abbrev pub both : Change → Change → Change
both one other = record { gained = amounts.both one.gained other.gained; paid = amounts.both one.paid other.paid }

-- an account with a change of the owner, where it is the owner's
abbrev pub changed : Address → Change → Account → Account
changed owner change account =
    if is_same account.address owner then record { address = account.address; total = both account.total change } else account

-- a worth as it is told, if there is one
abbrev pub plain_there : Option declared.Worth → Option Worth
plain_there None = None
plain_there (Some worth) = Some (plain_worth worth)

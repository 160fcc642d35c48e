-- How a check ends of what a caller in C lends, and an instruction that is done behind one.
use Rattle.std.specs.Prelude.{ℕ, ◌≡◌, ◌⊎◌, Option, Some}
use Rattle.dex_accounts.specs.Accepted.{IsAccepted}
use Rattle.dex_accounts.specs.Decoded.{AreSound, market_in}
use Rattle.dex_process.specs.Process.{Acting, acting}
use Rattle.dex_ring.specs.PendingFills.{pending_fills_of}
use Rattle.dex_types.specs.Accounts.{PlainMarketAccounts}
use Rattle.dex_check.specs.declared.flaw.Flaw.{Flaw}
use Rattle.dex_check.specs.Both.{CanAct, TellsBoth}
use Rattle.dex_check.specs.Flaws.{Tells}
use Rattle.dex_abi.specs.declared.flaws.FlawNumbers.{FlawNumbers}
use Rattle.dex_abi.specs.declared.numbers.ReplyNumbers.{ReplyNumbers}
use Rattle.dex_abi.specs.declared.records.Instruction.{Instruction}
use Rattle.dex_abi.specs.declared.records.MarketBytes.{MarketBytes}
use Rattle.dex_abi.specs.declared.records.WalletsBytes.{WalletsBytes}
use Rattle.dex_abi.specs.Flaws.{flaw_numbers, no_flaw}
use Rattle.dex_abi.specs.Lent.{EndsOn, accounts_of, acting_on, purse_of, roles_in}
use Rattle.dex_abi.specs.Numbers.{blank}

-- a flaw is told, by 3
pub record IsFlawed (number : ℕ) (numbers : FlawNumbers) (Told : Option Flaw → Type 0) : Type 0 where
  pub number_is : number ≡ 3
  pub flaw : Flaw
  pub told : Told (Some flaw)
  pub numbers_are : numbers ≡ flaw_numbers (Some flaw)

-- memory was wanting, by 7
pub record HasNoMemory (number : ℕ) (numbers : FlawNumbers) : Type 0 where
  pub number_is : number ≡ 7
  pub numbers_are : numbers ≡ no_flaw

-- how a check ends: by 0, where the accounts are accepted and those of a sound market; by 3, with their first flaw; or
-- for want of memory
abbrev pub EndsCheck : ℕ → FlawNumbers → PlainMarketAccounts → Type 0
EndsCheck number numbers accounts =
    ((number ≡ 0) × (numbers ≡ no_flaw) × IsAccepted accounts × AreSound accounts)
    ⊎ (IsFlawed number numbers (λ told. Tells told accounts) ⊎ HasNoMemory number numbers)

-- what is lent, with the sums counted
abbrev pub counted_on : MarketBytes → WalletsBytes → Acting
counted_on m w = acting (accounts_of m) (purse_of w) (pending_fills_of (market_in (accounts_of m)).events)

-- the accounts and the wallets have no flaw, and the instruction was done on them or refused
pub record IsDone (i : Instruction) (number : ℕ) (numbers : FlawNumbers) (reply : ReplyNumbers) (m : MarketBytes)
    (w : WalletsBytes) (left : Acting) : Type 0 where
  pub number_is : number ≡ 0
  pub numbers_are : numbers ≡ no_flaw
  pub can : CanAct (roles_in i) (accounts_of m) (purse_of w)
  pub ends : EndsOn i reply (counted_on m w) left

-- nothing was done: a flaw is told, or memory was wanting
pub record IsLeftAlone (i : Instruction) (number : ℕ) (numbers : FlawNumbers) (reply : ReplyNumbers) (m : MarketBytes)
    (w : WalletsBytes) (left : Acting) : Type 0 where
  pub why :
      IsFlawed number numbers (λ told. TellsBoth told (roles_in i) (accounts_of m) (purse_of w))
      ⊎ HasNoMemory number numbers
  pub reply_is : reply ≡ blank
  pub same : left ≡ acting_on m w

-- how it ends
abbrev pub EndsChecked : Instruction → ℕ → FlawNumbers → ReplyNumbers → MarketBytes → WalletsBytes → MarketBytes
    → WalletsBytes → Type 0
EndsChecked i number numbers reply m w after moved =
    IsDone i number numbers reply m w (acting_on after moved)
    ⊎ IsLeftAlone i number numbers reply m w (acting_on after moved)

-- What the laws of fees say: the rates, least and greatest numbers, and what a lock pays.
use Rattle.std.specs.Prelude.{ℕ, ◌+◌, ◌*◌, ◌≤◌}
use Rattle.dex_types.specs.declared.terms.Program.{Program}
use Rattle.dex_types.specs.declared.terms.Program.TheVariants.{Serum, OpenBook}
use Rattle.dex_types.specs.declared.terms.Tier.{Tier}
use Rattle.dex_types.specs.Fees.{taker_rate, taker_fee}

-- the most that a maker of any tier gets back, in hundredths of a percent
unfoldable pub greatest_maker_rate : Program → ℕ
greatest_maker_rate Serum = 5
greatest_maker_rate OpenBook = 2

-- the number meets the condition, and none below it does
pub record IsLeast (P : ℕ → Type 0) (number : ℕ) : Type 0 where
  pub meets : P number
  pub least : (other : ℕ) → P other → number ≤ other

-- the number meets the condition, and none above it does
pub record IsGreatest (P : ℕ → Type 0) (number : ℕ) : Type 0 where
  pub meets : P number
  pub greatest : (other : ℕ) → P other → other ≤ number

-- the fee is no less than the taker's rate of the quote
abbrev pub Covers : Program → Tier → ℕ → ℕ → Type 0
Covers program tier pc fee = pc * taker_rate program tier ≤ 10000 * fee

-- the lock pays the quote and the fee on it
abbrev pub Pays : Program → Tier → ℕ → ℕ → Type 0
Pays program tier lock pc = pc + taker_fee program tier pc ≤ lock

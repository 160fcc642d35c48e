-- The words of a market account that tell its funds, written at once.
use Rattle.std.specs.Prelude.{ℕ, ◌^◌, ◌<◌, List}
use Rattle.dex_fields.specs.declared.market.TheConstants.{COIN_DEPOSITS_TOTAL, PC_DEPOSITS_TOTAL, PC_FEES_ACCRUED, REFERRER_REBATES_ACCRUED}
use Rattle.dex_fields.specs.Bytes.{with_number}
use Rattle.dex_market.specs.declared.funds.MarketFunds.{MarketFunds}
use Rattle.dex_market.specs.MarketAccount.{MarketWords}

-- the bytes with these funds
abbrev pub with_funds : MarketFunds → List ℕ → List ℕ
with_funds funds bytes =
    with_number
    (with_number
    (with_number (with_number bytes COIN_DEPOSITS_TOTAL funds.coin_deposits) PC_DEPOSITS_TOTAL funds.pc_deposits)
    PC_FEES_ACCRUED
    funds.pc_fees)
    REFERRER_REBATES_ACCRUED
    funds.referrer_rebates

-- the words with these funds
abbrev pub words_with_funds : MarketFunds → MarketWords → MarketWords
words_with_funds funds words = record words {
  coin_deposits_total = funds.coin_deposits;
  pc_deposits_total = funds.pc_deposits;
  pc_fees_accrued = funds.pc_fees;
  referrer_rebates_accrued = funds.referrer_rebates;
}

-- funds that 64 bits hold
pub record FundsFit (funds : MarketFunds) : Type 0 where
  pub coin_deposits : funds.coin_deposits < 2 ^ 64
  pub pc_deposits : funds.pc_deposits < 2 ^ 64
  pub pc_fees : funds.pc_fees < 2 ^ 64
  pub referrer_rebates : funds.referrer_rebates < 2 ^ 64

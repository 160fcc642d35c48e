-- What a take leaves of the market account.
use Rattle.std.specs.Prelude.{ℕ, ◌+◌, ◌-◌, ◌<◌, ◌≤◌, ◌^◌, List}
use Rattle.dex_types.specs.Meeting.{Meeting}
use Rattle.dex_types.specs.Take.{Take, take_fee}
use Rattle.dex_types.specs.Transfers.{Transfers}
use Rattle.dex_market.specs.declared.funds.MarketFunds.{MarketFunds}
use Rattle.dex_market.specs.MarketAccount.{MarketWords, market_words}
use Rattle.dex_market.specs.MarketFunds.{with_funds, words_with_funds}
use Rattle.dex_take.specs.declared.plan.Exchange.{Exchange}

-- what moves between wallets and vaults
abbrev pub moves : Exchange → Transfers
moves moved = record { coin_in = moved.coin_in; pc_in = moved.pc_in; coin_out = moved.coin_out; pc_out = moved.pc_out; referrer_out = 0 }

-- the native quote that a take adds to the market's fees: its fee, less its makers' rebates
abbrev pub kept_of : Take → Meeting → ℕ
kept_of t met = take_fee t met - met.rebates

-- the words of a market can take in and pay out these transfers, with so much quote for its fees
pub record CanExchange (moved : Transfers) (kept : ℕ) (words : MarketWords) : Type 0 where
  pub coin_in : words.coin_deposits_total + moved.coin_in < 2 ^ 64
  pub coin_out : moved.coin_out ≤ words.coin_deposits_total + moved.coin_in
  pub pc_in : words.pc_deposits_total + moved.pc_in < 2 ^ 64
  pub pc_out : moved.pc_out + kept ≤ words.pc_deposits_total + moved.pc_in
  pub fees : words.pc_fees_accrued + kept < 2 ^ 64

-- the funds of the market after them
abbrev pub funds_after : Transfers → ℕ → MarketWords → MarketFunds
funds_after moved kept words = record {
  coin_deposits = words.coin_deposits_total + moved.coin_in - moved.coin_out;
  pc_deposits = words.pc_deposits_total + moved.pc_in - (moved.pc_out + kept);
  pc_fees = words.pc_fees_accrued + kept;
  referrer_rebates = words.referrer_rebates_accrued;
}

-- the words of the market with these funds
abbrev pub words_after : Transfers → ℕ → MarketWords → MarketWords
words_after moved kept words = words_with_funds (funds_after moved kept words) words

-- the bytes of the market with these funds
abbrev pub bytes_after : Transfers → ℕ → List ℕ → List ℕ
bytes_after moved kept bytes = with_funds (funds_after moved kept (market_words bytes)) bytes

-- What settling leaves of the market account and of the trader's account.
use Rattle.std.specs.Prelude.{◌≡◌, ℕ, ◌+◌, ◌-◌, ◌<◌, ◌≤◌, ◌^◌, List}
use Rattle.dex_fields.specs.declared.market.TheConstants.{ACCOUNT_FLAGS, PC_FEES_ACCRUED}
use Rattle.dex_fields.specs.Bytes.{with_number}
use Rattle.dex_types.specs.Settle.{Settlement}
use Rattle.dex_types.specs.Trader.{Account}
use Rattle.dex_types.specs.Transfers.{Transfers, payout}
use Rattle.dex_market.specs.declared.funds.MarketFunds.{MarketFunds}
use Rattle.dex_market.specs.MarketAccount.{MarketWords, market_words}
use Rattle.dex_market.specs.MarketFunds.{with_funds, words_with_funds}
use Rattle.dex_orders.specs.declared.amounts.Funds.{Funds}
use Rattle.dex_orders.specs.OrdersAccount.{account_of, funded}
use Rattle.dex_settle.specs.declared.plan.SettlePlan.{SettlePlan}
use Rattle.dex_settle.specs.SettleGiven.{SettleGiven}

-- the plan that a settlement is
abbrev pub plan_of : Settlement → SettlePlan
plan_of s = record { coin = s.coin; pc = s.pc; referrer = s.referrer; to_fees = s.to_fees }

-- the settlement that a plan says
abbrev pub settlement_by : SettlePlan → Settlement
settlement_by plan = record { coin = plan.coin; pc = plan.pc; referrer = plan.referrer; to_fees = plan.to_fees }

-- what a plan brings to wallets
abbrev pub transfers_by : SettlePlan → Transfers
transfers_by plan = payout plan.coin plan.pc plan.referrer

-- the plan pays out all that is free in an account, and all of its referrer part, to the referrer or to the fees
pub record PaysOut (plan : SettlePlan) (account : Account) : Type 0 where
  pub coin : plan.coin ≡ account.coin.free
  pub pc : plan.pc ≡ account.pc.free
  pub referrer : plan.referrer + plan.to_fees ≡ account.referrer

-- the words of a market can pay a plan: what is taken is there, and the fees do not pass their field
pub record CanPay (plan : SettlePlan) (words : MarketWords) : Type 0 where
  pub coin : plan.coin ≤ words.coin_deposits_total
  pub pc : plan.pc ≤ words.pc_deposits_total
  pub fees : words.pc_fees_accrued + plan.to_fees < 2 ^ 64
  pub rebates : plan.referrer + plan.to_fees ≤ words.referrer_rebates_accrued

-- the funds of a market that paid a plan
abbrev pub market_after : SettlePlan → MarketWords → MarketFunds
market_after plan words = record {
  coin_deposits = words.coin_deposits_total - plan.coin;
  pc_deposits = words.pc_deposits_total - plan.pc;
  pc_fees = words.pc_fees_accrued + plan.to_fees;
  referrer_rebates = words.referrer_rebates_accrued - (plan.referrer + plan.to_fees);
}

-- its words with these funds
abbrev pub words_after : SettlePlan → MarketWords → MarketWords
words_after plan words = words_with_funds (market_after plan words) words

-- its bytes with these funds
abbrev pub bytes_after : SettlePlan → List ℕ → List ℕ
bytes_after plan bytes = with_funds (market_after plan (market_words bytes)) bytes

-- funds of which all that is free was paid out, and the referrer part
abbrev pub funds_after : Account → Funds
funds_after account = record {
  coin_free = 0;
  coin_total = account.coin.total - account.coin.free;
  pc_free = 0;
  pc_total = account.pc.total - account.pc.free;
  referrer = 0;
}

-- what settling leaves: the market paid the plan, and the account has nothing free and no referrer part
abbrev pub settled : SettlePlan → SettleGiven → SettleGiven
settled plan given = record { market = bytes_after plan given.market; account = funded given.account (funds_after (account_of given.account)) }

-- the market account without its pc fees
abbrev pub swept : List ℕ → List ℕ
swept bytes = with_number bytes PC_FEES_ACCRUED 0

-- the market account of a disabled market
abbrev pub with_disabled : List ℕ → List ℕ
with_disabled bytes = with_number bytes ACCOUNT_FLAGS 131

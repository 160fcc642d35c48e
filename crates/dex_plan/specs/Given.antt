-- What deciding a row is given: the market that accounts tell, what the row asks of it, and what an order and a take
-- read.
use Rattle.std.specs.Prelude.{ℕ, List, Option}
use Rattle.dex_types.specs.declared.account_bytes.MarketAccounts.{MarketAccounts}
use Rattle.dex_types.specs.declared.rows.Seen.{Seen}
use Rattle.dex_types.specs.declared.terms.Side.{Side}
use Rattle.dex_types.specs.Accounts.{PlainMarketAccounts, market_accounts_of}
use Rattle.dex_types.specs.Market.{Market}
use Rattle.dex_types.specs.Requests.{Party, Request, party_of}
use Rattle.dex_types.specs.Side.{by_side}
use Rattle.dex_accounts.specs.Decoded.{market_in}
use Rattle.dex_accounts.specs.Parts.{parts_of}
use Rattle.dex_history.specs.Journal.{Agree}
use Rattle.dex_instruction.specs.Reading.{decoded}
use Rattle.dex_match.specs.OrderParts.{OrderGiven, order_given}
use Rattle.dex_plan.specs.declared.ask.Ask.{Ask}
use Rattle.dex_take.specs.TakeGiven.{TakeGiven, take_given}

-- the market that its accounts tell
abbrev pub market_of : MarketAccounts → Market
market_of accounts = market_in (market_accounts_of accounts)

-- what is asked of a market
abbrev pub asked_by : Ask → Request
asked_by ask = record { instruction = decoded ask.data.now; signer = ask.signer; named = ask.named.now; now = ask.clock }

-- where one wallet is seen under two roles, it is one wallet in both
pub record SeesEachOnce (seen : Seen) : Type 0 where
  pub coin_pc : Agree seen.coin seen.pc
  pub coin_discount : Agree seen.coin seen.discount
  pub coin_referrer : Agree seen.coin seen.referrer
  pub pc_discount : Agree seen.pc seen.discount
  pub pc_referrer : Agree seen.pc seen.referrer
  pub discount_referrer : Agree seen.discount seen.referrer

-- the open account of a market that a row names first
abbrev pub party_on : Request → Market → Option Party
party_on request m = party_of request.named m.traders

-- the bytes of a side
abbrev pub bytes_on : Side → PlainMarketAccounts → List ℕ
bytes_on side accounts = by_side side accounts.bids accounts.asks

-- what an order of the side is given, by the account of these bytes
abbrev pub given_on : Side → List ℕ → PlainMarketAccounts → OrderGiven
given_on side account accounts = order_given side account (parts_of accounts)

-- what a take of the side is given
abbrev pub take_given_on : Side → PlainMarketAccounts → TakeGiven
take_given_on side accounts = take_given side (parts_of accounts)

-- What pending events and accounts weigh in sums, and as what a sum is reported.
use Rattle.std.specs.Prelude.{ℕ, ◌-◌, ◌^◌, min}
use Rattle.dex_types.specs.Owed.{kept, leaving, owed, referred}
use Rattle.dex_types.specs.QueuedEvent.{QueuedEvent}
use Rattle.dex_types.specs.Side.{Token, Coin, Pc}
use Rattle.dex_types.specs.Solvency.{free_of, referrer_of}
use Rattle.dex_types.specs.Trader.{Trader}
use Rattle.dex_totals.specs.declared.tokens.Token.{Token as CodeToken}
use Rattle.dex_totals.specs.declared.tokens.Token.TheVariants as code
use Rattle.dex_totals.specs.declared.weights.Weight.{Weight}
use Rattle.dex_totals.specs.declared.weights.Weight.TheVariants as by
use Rattle.dex_totals.specs.declared.amounts.Amount.{Amount}
use Rattle.dex_totals.specs.declared.amounts.Amount.TheVariants as of

-- a sum as it is told: from 2^128 on as 2^128 - 1
abbrev pub capped : ℕ → ℕ
capped amount = min amount (2 ^ 128 - 1)

-- the token of the definitions
abbrev pub token_of : CodeToken → Token
token_of code.Coin = Coin
token_of code.Pc = Pc

-- what an event weighs
abbrev pub weight_of : Weight → QueuedEvent → ℕ
weight_of (by.Owed token) event = owed (token_of token) event
weight_of (by.Leaving token) event = leaving (token_of token) event
weight_of (by.Kept token) event = kept (token_of token) event
weight_of by.Referred event = referred event

-- an amount of a trader
abbrev pub amount_of : Amount → Trader → ℕ
amount_of (of.Free token) trader = free_of (token_of token) trader
amount_of of.Referrer trader = referrer_of trader

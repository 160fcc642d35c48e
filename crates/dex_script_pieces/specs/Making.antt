-- Markets that threads make.
use Rattle.std.specs.Prelude.{◌≡◌, Ok, IfOk, List, Result, Vec, map}
use Rattle.std.specs.declared.alloc.Global.{Global}
use Rattle.dex_types.specs.declared.terms.NoMemory.{NoMemory}
use Rattle.dex_types.specs.Accounts.{PlainMarketAccounts}
use Rattle.dex_script_pieces.specs.declared.making.Making.{Making}

-- where there was memory, the market is the same
abbrev pub MakesMarket : Making → Making → Type 0
MakesMarket before after = IfOk after.market (λ market. before.market ≡ Ok market)

-- where there was memory, the markets are the same
abbrev pub MakesMarkets : Result (Vec PlainMarketAccounts Global) NoMemory → Result (Vec PlainMarketAccounts Global) NoMemory → Type 0
MakesMarkets before after = IfOk after (λ made. IfOk before (λ markets. made.items ≡ markets.items))

-- the markets of jobs, where there was memory
abbrev pub in_jobs : List Making → List (Result PlainMarketAccounts NoMemory)
in_jobs jobs = map (λ (job : Making). job.market) jobs

use Rattle.std.proofs.Common.{◌≡◌, Ok, map}
use Rattle.dex_types.specs.Accounts.{PlainMarketAccounts}
use Rattle.dex_script_pieces.specs.Making.{in_jobs}
use Rattle.dex_script_pieces.proofs.making.jobs_of.Given as goal

abbrev pub invariant-loop-market : goal.invariant-loop-market
invariant-loop-market l = in_jobs l.jobs.items ≡ map (λ (market : PlainMarketAccounts). Ok market) l.yielded

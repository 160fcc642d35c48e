use Rattle.std.proofs.Common.{◌≡◌, Ok, map}
use Rattle.dex_types.specs.Accounts.{PlainMarketAccounts}
use Rattle.dex_script_pieces.specs.Making.{in_jobs}
use Rattle.dex_script_pieces.proofs.making.made_by.Given as goal

abbrev pub invariant-loop-job : goal.invariant-loop-job
invariant-loop-job l = map (λ (market : PlainMarketAccounts). Ok market) l.made.items ≡ in_jobs l.yielded

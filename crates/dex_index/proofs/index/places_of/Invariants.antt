use Rattle.std.proofs.Common.{Some, drop, map}
use Rattle.dex_types.specs.Accounts.{orders_account_of}
use Rattle.dex_index.specs.Reached.{LeadsToAll, leads_by}
use Rattle.dex_index.proofs.index.places_of.Given as goal

-- the map leads to all accounts from the place on
abbrev pub invariant-loop-place : goal.invariant-loop-place
invariant-loop-place l = LeadsToAll (leads_by (Some l.places)) l.place (drop l.place (map orders_account_of l.accounts))

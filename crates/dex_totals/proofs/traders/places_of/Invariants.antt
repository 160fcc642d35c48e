use Rattle.std.proofs.Common.{drop}
use Rattle.std.specs.HashMap as hash
use Rattle.dex_types.specs.Addresses.{is_same}
use Rattle.dex_totals.specs.Reading.{LeadToTraders, traders}
use Rattle.dex_totals.proofs.traders.places_of.Given as goal

-- the map leads to the accounts from the place on
abbrev pub invariant-loop-place : goal.invariant-loop-place
invariant-loop-place l = LeadToTraders (hash.get is_same l.places) l.accounts (traders (drop l.place l.accounts))

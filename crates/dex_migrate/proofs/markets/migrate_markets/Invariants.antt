use Rattle.dex_migrate.specs.Migrated.{IsMigrated}
use Rattle.dex_migrate.proofs.MarketLaws.{AreDone}
use Rattle.dex_migrate.proofs.markets.migrate_markets.Given as goal

abbrev pub invariant-loop-place : goal.invariant-loop-place
invariant-loop-place l = AreDone (IsMigrated l.nodes l.events) l.place l.initial.markets l.markets

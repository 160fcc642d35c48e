use Rattle.dex_migrate.proofs.KeptLaws.{migrated-sound, migrated-stands}
use Rattle.dex_migrate.proofs.laws.migrated_accounts_stand_for_the_market_with_other_capacities.Goals as goal

pub returns-clause-stands : goal.returns-clause-stands
returns-clause-stands c = migrated-stands

pub returns-clause-sound : goal.returns-clause-sound
returns-clause-sound c = migrated-sound

use Rattle.dex_migrate.proofs.KeptLaws.{migrated-accepted}
use Rattle.dex_migrate.proofs.laws.migrated_accounts_are_accepted.Goals as goal

pub returns : goal.returns
returns c = λ limits nodes events. migrated-accepted nodes events limits

use Rattle.dex_migrate.proofs.FindingLaws.{same-findings}
use Rattle.dex_migrate.proofs.laws.migrated_accounts_have_the_same_findings.Goals as goal

pub returns : goal.returns
returns c = same-findings

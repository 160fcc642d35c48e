use Rattle.dex_audit.proofs.ExactLaw.{audit-of-markets, markets-exactly}
use Rattle.dex_audit.proofs.laws.markets_without_findings_are_sound.Goals as goal

pub returns-clause-exactly : goal.returns-clause-exactly
returns-clause-exactly c = markets-exactly

pub returns-clause-audit : goal.returns-clause-audit
returns-clause-audit c = audit-of-markets

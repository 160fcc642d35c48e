use Rattle.dex_audit.proofs.NoneLaw.{mints-conserved}
use Rattle.dex_audit.proofs.laws.mints_without_findings_are_conserved.Goals as goal

pub returns : goal.returns
returns c = mints-conserved

use Rattle.dex_audit.proofs.NoneLaw.{markets-sound}
use Rattle.dex_audit.proofs.laws.accounts_without_findings_are_of_sound_markets.Goals as goal

pub returns : goal.returns
returns c = markets-sound

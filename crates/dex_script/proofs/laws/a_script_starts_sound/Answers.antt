use Rattle.dex_script.proofs.StartLaws.{starts-sound}
use Rattle.dex_script.proofs.laws.a_script_starts_sound.Goals as goal

pub returns : goal.returns
returns c = starts-sound c.accounts_without_findings_are_of_sound_markets.ensures c.mints_without_findings_are_conserved.ensures

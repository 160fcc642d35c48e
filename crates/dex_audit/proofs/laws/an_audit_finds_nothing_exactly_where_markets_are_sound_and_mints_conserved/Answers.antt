use Rattle.dex_audit.proofs.ExactLaw.{exactly}
use Rattle.dex_audit.proofs.laws.an_audit_finds_nothing_exactly_where_markets_are_sound_and_mints_conserved.Goals as goal

pub returns : goal.returns
returns c = exactly

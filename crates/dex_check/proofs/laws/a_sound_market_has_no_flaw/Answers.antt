use Rattle.dex_check.proofs.FlawLaws.{no-flaw}
use Rattle.dex_check.proofs.laws.a_sound_market_has_no_flaw.Goals as goal

pub returns : goal.returns
returns c = no-flaw c.checks_of_a_market_hold_exactly_where_it_is_accepted.ensures c.markets_without_findings_are_sound.ensures.exactly

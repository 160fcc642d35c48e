use Rattle.dex_check.proofs.FlawLaws.{exactly-told}
use Rattle.dex_check.specs.Flaws.{accounts_of}
use Rattle.dex_check.proofs.checking.check.Goals as goal

pub returns-clause-exact : goal.returns-clause-exact
returns-clause-exact c =
    exactly-told c.a_sound_market_has_no_flaw.ensures c.in_ok-told.told (accounts_of c.args.market.now) c.in_ok-told.ensures.held c.in_ok-told.ensures.flaw
